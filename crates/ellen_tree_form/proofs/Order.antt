-- The order of the tree and each key's way, behind an insertion and behind a swing.
pub mod Insert
pub mod InsertWays
pub mod SwingLeft
pub mod SwingRight
pub mod SwingWays
