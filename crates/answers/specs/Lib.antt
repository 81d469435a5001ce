-- What the call that reads promises, and what its parts do.
pub mod Reading
