pub mod VisitsLaws
