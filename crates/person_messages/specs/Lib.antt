pub mod Forms
pub mod WordFaults
