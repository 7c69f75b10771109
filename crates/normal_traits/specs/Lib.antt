pub mod World
pub mod NormalForm
pub mod Steps
pub mod Laws
pub mod AtOnce
