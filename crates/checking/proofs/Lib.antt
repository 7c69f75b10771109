pub mod CutFiles
pub mod ReadFiles
pub mod Endings
