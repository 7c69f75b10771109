pub mod Words
pub mod Search
pub mod Shape
pub mod Knowledge
pub mod Form
