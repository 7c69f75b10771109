-- The steps of anyone else.
pub mod Foreign
pub mod OthersKept
pub mod Stores
pub mod Exchanges
pub mod Beside
