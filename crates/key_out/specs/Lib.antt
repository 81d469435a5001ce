pub mod Out
pub mod Sound
