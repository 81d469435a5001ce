-- What members of object types begin with and come to, over the rules' definitions.
pub mod Told
pub mod Object
