-- A block that a helper has filled is filled for its list, and holds it.
pub mod Filled
pub mod Contents
