pub mod Counts
pub mod Endings
pub mod Placed
-- of the crates below, for those above
pub use Rattle.run_exchanges.proofs.Kept
