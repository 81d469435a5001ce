-- What the call that takes a key back promises.
pub mod Call
