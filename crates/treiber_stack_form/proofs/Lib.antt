pub mod ShapeKept
pub mod Laws
