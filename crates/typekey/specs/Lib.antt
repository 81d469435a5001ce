-- The three demands, and what W4, W9 and W14 ask.
pub mod Demands
