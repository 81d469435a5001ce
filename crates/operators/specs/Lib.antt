-- What unions, intersections, operators and infer come to, over the rules' definitions and the key's store.
pub mod Union
pub mod Operator
pub mod Infer
