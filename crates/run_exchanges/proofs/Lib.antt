pub mod Moves
pub mod Changes
pub mod Journals
pub mod Exchanges
-- of the crates below, for those above
pub use Rattle.run_invariant.proofs.Holding
pub use Rattle.run_invariant.proofs.Words
pub use Rattle.run_invariant.proofs.Goes
pub use Rattle.run_invariant.proofs.InRuns
pub use Rattle.run_invariant.proofs.Kept
pub use Rattle.run_invariant.proofs.Tells
