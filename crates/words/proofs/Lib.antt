pub mod Fields
pub mod Tests
pub mod Bytes
pub mod Looks
pub mod Refusals
