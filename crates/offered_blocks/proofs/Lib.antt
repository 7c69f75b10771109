pub mod Blocks
pub mod Helpers
pub mod Others
pub mod Records
pub mod LawsOfBlocks
