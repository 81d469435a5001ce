-- What the call that compares promises, over the list that it is lent.
pub mod Call
