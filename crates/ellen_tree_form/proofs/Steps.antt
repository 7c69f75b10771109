-- What every allowed step of the tree leaves, and what none does.
pub mod Later
pub mod Spares
pub mod Turns
