-- Each move of a run is a step of its phase; a move with what holds before it and after it.
pub mod Asked
pub mod OwnMade
pub mod HelpMade
pub mod MoveSteps
pub mod Unannounced
pub mod Mover
pub mod Helped
pub mod Rests
pub mod Inside
pub mod MoverInside
pub mod MovesKinds
pub mod Leaves
pub mod MovesInRuns
