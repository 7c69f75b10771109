-- What each allowed step does to sorted lists, and that it keeps their shape and what was learnt.
pub mod Changes
pub mod Later
pub mod LearntStays
pub mod Marks
pub mod ShapeAtUnlinks
pub mod NodeAdded
pub mod NodeMarked
pub mod ShapeKept
pub mod Journal
