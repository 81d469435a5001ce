pub mod PutLaws
pub mod Chunks
pub mod Windows
pub mod ReaderLaws
