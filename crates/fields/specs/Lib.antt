pub mod Take
pub mod Put
pub mod Reader
