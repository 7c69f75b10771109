-- Of which kind a step is, phase by phase.
pub mod OwnStores
pub mod Entries
pub mod Helping
pub mod EachPhase
