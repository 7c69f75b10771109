-- What the won exchanges of every run obey, and which move made each.
pub mod Obey
pub mod Once
