pub mod Object
pub mod Tellable
pub mod Steps
pub mod Meanings
pub mod Form
