pub mod Fixed
pub mod Walk
