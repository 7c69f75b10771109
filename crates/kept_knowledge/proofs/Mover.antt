-- What the machine that moved knows.
pub mod Callers
pub mod Fresh
pub mod Knows
pub mod Commands
