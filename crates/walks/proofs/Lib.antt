pub mod Listed
pub mod Walking
pub mod Rests
