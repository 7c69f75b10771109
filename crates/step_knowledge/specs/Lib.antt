pub mod Known
pub mod Moves
pub mod Others
