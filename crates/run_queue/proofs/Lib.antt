pub mod Views
pub mod Moves
pub mod Runs
pub mod Blocks
pub mod QueueLaws
pub mod OutcomeLaws
pub mod EventLaws
