pub mod FormsLaws
pub mod MovesLaws
