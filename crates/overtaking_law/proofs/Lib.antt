pub mod States
pub mod Order
pub mod Steps
pub mod Tracking
pub mod Greatest
pub mod EventsOrdered
