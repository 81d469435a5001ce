pub mod Forms
pub mod Moves
