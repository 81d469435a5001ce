pub mod Theorems
pub mod Rows
