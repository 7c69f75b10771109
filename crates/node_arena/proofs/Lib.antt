pub mod ZerosOpen
pub mod PlacesApart
pub mod Openings
