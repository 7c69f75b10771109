-- The steps on records, and what a record tells.
pub mod RecordSteps
pub mod Names
pub mod Settles
pub mod Puts
pub mod Naming
