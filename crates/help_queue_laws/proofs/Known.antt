-- What holds of a scene, and what a seat knows of it by its phase.
pub mod QueueWords
pub mod Totals
pub mod Scenes
pub mod Knowledge
pub mod Frames
pub mod GhostsAfterSteps
pub mod SceneLaws
