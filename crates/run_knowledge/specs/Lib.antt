pub mod Tells
pub mod InMemory
pub mod Unannounced
pub mod Kept
-- of the crates below, for those above
pub use Rattle.run_world.specs.Ghosts
pub use Rattle.run_world.specs.Identities
pub use Rattle.run_world.specs.InHand
pub use Rattle.run_world.specs.Lists
pub use Rattle.run_world.specs.RunGhosts
pub use Rattle.run_world.specs.SeatSteps
pub use Rattle.run_world.specs.Worlds
pub use Rattle.step_knowledge.specs.Known
pub use Rattle.step_knowledge.specs.Moves
pub use Rattle.step_knowledge.specs.Others
