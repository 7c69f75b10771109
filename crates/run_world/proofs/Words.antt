pub mod WordsAfterMoves
pub mod Opens
pub mod Grow
pub mod Moved
pub mod Seats
pub mod Wins
