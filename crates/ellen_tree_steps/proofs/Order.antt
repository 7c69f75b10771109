-- The order and the map behind an insertion, a swing, and a step that exchanges no child.
pub mod ChildForm
pub mod LinkForm
pub mod LinkOrder
pub mod SwingForm
pub mod MapSteps
pub mod Asides
