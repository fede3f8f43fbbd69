pub mod Parts
pub mod Rows
pub mod Said
pub mod Case
pub mod Theorems
pub mod Example
