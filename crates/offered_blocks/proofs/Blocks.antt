-- One offered block: its entries, its beginning, and what holds of it after a deed.
pub mod Places
pub mod Items
pub mod Guards
pub mod Begins
pub mod Named
pub mod Kept
pub mod Rises
pub mod Opening
pub mod Settled
pub mod HoldsKept
