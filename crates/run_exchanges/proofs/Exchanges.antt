-- The journal of a run tells the exchanges that were won, and who made them.
pub mod Requests
pub mod Asks
pub mod Tells
pub mod Made
