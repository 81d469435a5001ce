pub mod Fronts
pub mod Finished
