-- The calls that are read of a text, one after the other: their order, their ticks, and that there is one report.
pub mod Apart
pub mod Beginning
pub mod NextCalls
pub mod ReadBack
pub mod Drawn
pub mod Turns
pub mod InOrder
pub mod OneCallMore
pub mod Tables
pub mod RunReports
