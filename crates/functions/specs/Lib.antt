-- What functions, their parameters and type parameters come to, over the rules' definitions and the key's store.
pub mod Told
pub mod Function
