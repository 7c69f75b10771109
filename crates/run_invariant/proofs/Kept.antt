-- Each move keeps the whole, and so it holds of every run.
pub mod Moves
pub mod Induction
pub mod EveryRun
pub mod Agreed
