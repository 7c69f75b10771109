pub mod Premises
pub mod Others
pub mod Mover
pub mod Counted
pub mod PartLaws
-- of the crates below, for those above
pub use Rattle.run_knowledge.proofs.Holding
pub use Rattle.run_knowledge.proofs.Names
pub use Rattle.run_knowledge.proofs.Words
pub use Rattle.run_knowledge.proofs.Goes
pub use Rattle.run_knowledge.proofs.Bounds
pub use Rattle.run_knowledge.proofs.InRuns
