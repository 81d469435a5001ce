-- What tuples and their elements come to, over the rules' definitions and the key's store.
pub mod Told
pub mod Tuple
