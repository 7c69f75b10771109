pub mod FastRuns
pub mod SlowRuns
pub mod BlockReads
