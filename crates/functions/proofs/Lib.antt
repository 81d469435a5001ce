pub mod ParameterLaws
pub mod FunctionLaws
pub mod HeadLaws
pub mod ParameterListLaws
