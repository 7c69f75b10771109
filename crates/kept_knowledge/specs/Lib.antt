pub mod Afterwards
-- of the crates below, for those above
pub use Rattle.run_knowledge.specs.Ghosts
pub use Rattle.run_knowledge.specs.Identities
pub use Rattle.run_knowledge.specs.InHand
pub use Rattle.run_knowledge.specs.Lists
pub use Rattle.run_knowledge.specs.RunGhosts
pub use Rattle.run_knowledge.specs.SeatSteps
pub use Rattle.run_knowledge.specs.Worlds
pub use Rattle.run_knowledge.specs.Known
pub use Rattle.run_knowledge.specs.Moves
pub use Rattle.run_knowledge.specs.InMemory
pub use Rattle.run_knowledge.specs.Kept
pub use Rattle.run_knowledge.specs.Tells
