pub mod Terms
pub mod Meanings
pub mod Rounds
pub mod Runs
pub mod Kinds
pub mod Table
pub mod Theorems
pub mod Examples
