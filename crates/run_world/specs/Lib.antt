pub mod Ghosts
pub mod Worlds
pub mod SeatSteps
pub mod RunGhosts
pub mod Moves
pub mod Lists
pub mod InHand
pub mod Identities
