pub mod StructLaws
pub mod Theorems
