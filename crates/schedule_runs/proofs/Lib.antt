pub mod OneSpan
pub mod RunsInOrder
pub mod OneOrderNamed
pub mod DriveLoops
pub mod RoundsTakeTurns
pub mod RoundsWithoutOne
