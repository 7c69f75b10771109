-- The shape behind each of the six effects.
pub mod Assembled
pub mod KeptEnd
pub mod KeptLink
pub mod KeptMark
pub mod KeptQuiet
pub mod KeptSet
pub mod KeptSwing
