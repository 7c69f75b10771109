pub mod Changes
pub mod Endings
pub mod Placed
pub mod History
pub mod Files
pub mod Linearized
pub mod Headline
