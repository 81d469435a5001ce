pub mod Checking
pub mod Nodes
pub mod Lined
pub mod Roomy
pub mod Whole
