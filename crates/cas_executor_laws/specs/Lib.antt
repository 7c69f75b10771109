pub mod ExecRuns
pub mod Entries
pub mod Parts
pub mod Laws
pub mod Reads
