pub mod InRuns
pub mod Bounds
-- of the crates below, for those above
pub use Rattle.run_world.proofs.Holding
pub use Rattle.run_world.proofs.Names
pub use Rattle.run_world.proofs.Words
pub use Rattle.run_hands.proofs.Blocks
pub use Rattle.step_knowledge.proofs.Goes
pub use Rattle.step_knowledge.proofs.OfKinds
pub use Rattle.step_knowledge.proofs.Stays
