-- Whose the lists are, and what records tell.
pub mod RecordMoves
pub mod RecordTells
pub mod NewLists
pub mod Followed
pub mod Owned
