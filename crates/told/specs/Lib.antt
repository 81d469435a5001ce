-- How an answer is told by words.
pub mod Options
pub mod Denied
pub mod Answer
pub mod Apart
