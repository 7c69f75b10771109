-- What an exchange leaves of the words of nodes.
pub mod ChildWords
pub mod UpdateWords
pub mod Stored
