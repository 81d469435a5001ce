-- What walking two keys comes to, over what their trees hold.
pub mod Walk
