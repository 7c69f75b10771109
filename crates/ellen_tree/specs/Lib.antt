pub mod ProvedLaws
pub mod TreeShape
