-- What is known stays where another seat moves.
pub mod OtherSeats
