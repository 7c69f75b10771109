pub mod ProvedLaws
pub mod WalkEnds
pub mod Ways
