pub mod Differing
pub mod Keys
