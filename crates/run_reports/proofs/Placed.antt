-- The calls of a run are placed in the history of its changes, so its report is linearizable; and the headline.
pub mod Histories
pub mod Reports
pub mod Placeable
pub mod Moments
pub mod Linearized
pub mod HeadlineMet
