pub mod Begun
pub mod OverFiles
pub mod SeatLines
pub mod Gathered
pub mod Told
