-- What the help queue gives: the call of the head where a record exchange is won, and that no record is of a call to come.
pub mod CallsBelow
pub mod Meeting
