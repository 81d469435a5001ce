pub mod TupleLaws
pub mod ElementLaws
pub mod LabelLaws
pub mod MemberLaws
