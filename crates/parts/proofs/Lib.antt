pub mod PostfixLaws
pub mod NamingLaws
pub mod MappingLaws
pub mod ArgumentLaws
pub mod RingLaws
pub mod Turns
