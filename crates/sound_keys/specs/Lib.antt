-- What checking a key comes to, over the definitions of reading it.
pub mod Sound
