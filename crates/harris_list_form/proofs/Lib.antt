pub mod Held
pub mod Steps
pub mod Paths
pub mod Calls
pub mod Laws
