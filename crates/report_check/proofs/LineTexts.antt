-- The text of a line and what is read of it.
pub mod LineCommands
pub mod LineFields
pub mod LineReplies
pub mod SummaryEnds
pub mod CleanLines
pub mod CallsOnLines
