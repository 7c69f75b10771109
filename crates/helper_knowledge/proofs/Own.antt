-- What a helper knows after a step of its own, phase by phase, and of which kinds its steps are.
pub mod OwnSearch
pub mod OwnFill
pub mod OwnList
pub mod OwnWork
pub mod OwnSteps
pub mod OwnReads
pub mod OwnKinds
pub mod WorkKinds
pub mod ToldWhole
pub mod Goes
