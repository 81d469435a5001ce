pub mod OperatorLaws
pub mod InferLaws
