pub mod Visits
pub mod Sound
