pub mod Kinds
pub mod Answers
pub mod Theorems
pub mod Example
pub mod Listed
