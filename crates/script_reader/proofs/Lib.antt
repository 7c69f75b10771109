pub mod Digits
pub mod WordsOf
pub mod LinesOf
pub mod LineByLine
pub mod Faults
pub mod Kept
pub mod Entries
pub mod Outcomes
