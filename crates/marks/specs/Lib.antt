-- Where a reading stands, and what stands in the slices since.
pub mod Told
pub mod State
pub mod Tally
pub mod Laid
pub mod Says
pub mod Number
pub mod Notes
pub mod Node
pub mod Names
pub mod List
