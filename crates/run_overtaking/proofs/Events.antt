-- The events of every run: the count of one call, and their order.
pub mod CallStates
pub mod Overtaken
pub mod Members
pub mod StepOrder
pub mod Few
pub mod Folded
