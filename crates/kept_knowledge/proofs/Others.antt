-- What the other machines know.
pub mod Callers
pub mod Know
