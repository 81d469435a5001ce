pub mod HeadLaws
pub mod StepLaws
pub mod EndLaws
pub mod SignatureLaws
pub mod IndexLaws
