pub mod AtRows
pub mod Steps
pub mod InRows
