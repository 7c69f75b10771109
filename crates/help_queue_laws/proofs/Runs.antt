-- All steps of a world, and the laws of its runs.
pub mod EveryRunHolds
pub mod StepsOfCode
pub mod LawsOfRuns
