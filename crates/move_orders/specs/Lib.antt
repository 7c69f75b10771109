pub mod Orders
pub mod SeatLines
