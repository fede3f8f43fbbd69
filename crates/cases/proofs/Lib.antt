pub mod Numbered
pub mod Standing
pub mod Said
pub mod Sound
pub mod Placed
pub mod Marked
pub mod Holds
