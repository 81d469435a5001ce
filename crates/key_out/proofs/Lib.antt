pub mod OutLaws
pub mod OnceLaws
pub mod KeyedLaws
