-- What the readers ask and answer.
pub mod Ring
