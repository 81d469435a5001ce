pub mod BackLaws
pub mod Nodes
pub mod Whole
