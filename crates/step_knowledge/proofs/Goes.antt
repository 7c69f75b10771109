-- What a machine knows after a step of its own, phase by phase.
pub mod Searches
pub mod OwnPlaces
pub mod Fills
pub mod Wraps
pub mod Runs
pub mod Tests
pub mod Ready
pub mod Helping
pub mod EachPhase
