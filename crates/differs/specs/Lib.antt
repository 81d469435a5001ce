-- What two trees differ in, and the call that says it.
pub mod Content
pub mod Differ
