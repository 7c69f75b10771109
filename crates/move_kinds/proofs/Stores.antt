-- The stores of an offer: all into its block, and each at a place of its own.
pub mod Into
pub mod Places
pub mod Apart
