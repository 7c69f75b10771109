pub mod Gathers
pub mod Enters
pub mod Removes
pub mod Heads
