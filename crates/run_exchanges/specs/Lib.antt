pub mod Exchanges
pub mod Journals
-- of the crates below, for those above
pub use Rattle.run_invariant.specs.Ghosts
pub use Rattle.run_invariant.specs.Lists
pub use Rattle.run_invariant.specs.RunGhosts
pub use Rattle.run_invariant.specs.SeatSteps
pub use Rattle.run_invariant.specs.Worlds
pub use Rattle.run_invariant.specs.Kept
pub use Rattle.run_invariant.specs.Tells
