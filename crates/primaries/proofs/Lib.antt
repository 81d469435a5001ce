pub mod PrimaryLaws
pub mod RingShapes
pub mod LoneLaws
