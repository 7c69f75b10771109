pub mod Exchanges
pub mod Shape
pub mod Lists
pub mod Words
pub mod Order
pub mod Steps
