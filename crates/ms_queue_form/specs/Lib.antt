pub mod Search
pub mod Wrap
pub mod Chain
pub mod Shape
pub mod Knowledge
pub mod Form
