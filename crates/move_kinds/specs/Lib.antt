pub mod Moves
pub mod Contents
pub mod Offering
pub mod Kinds
pub mod Telling
pub mod Owned
pub mod KindLaws
