-- The paths after a step: where no reference is changed, where a node is linked, and where nodes between
-- two others are unlinked.
pub mod SameNodes
pub mod Between
pub mod LinkOrder
pub mod NodeLinked
pub mod NodesUnlinked
