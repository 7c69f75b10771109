pub mod Records
pub mod Tells
pub mod Kept
-- of the crates below, for those above
pub use Rattle.kept_knowledge.proofs.Holding
pub use Rattle.kept_knowledge.proofs.Names
pub use Rattle.kept_knowledge.proofs.Words
pub use Rattle.kept_knowledge.proofs.Goes
pub use Rattle.kept_knowledge.proofs.Bounds
pub use Rattle.kept_knowledge.proofs.InRuns
