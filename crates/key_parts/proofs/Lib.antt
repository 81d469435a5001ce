pub mod NeverLaws
pub mod Steps
pub mod SpellingLaws
pub mod ChoiceLaws
pub mod Walk
pub mod PaddingLaws
pub mod Lines
pub mod Rows
