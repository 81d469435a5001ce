-- What names with arguments, mapped types and postfix marks come to, over the rules' definitions and the key's store.
pub mod Told
pub mod Arguments
pub mod Mapped
pub mod Postfix
