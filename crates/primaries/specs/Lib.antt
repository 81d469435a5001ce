-- What primary types begin as and come to, over the rules' definitions and the key's store.
pub mod Primary
pub mod Lone
pub mod Onward
