pub mod Runs
pub mod Place
pub mod Spelling
pub mod Choice
pub mod Padding
pub mod Widths
pub mod Step
