pub mod Whole
pub mod Headline
