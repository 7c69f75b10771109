-- What a helper knows is kept by every kind of another seat's move.
pub mod WorkKept
pub mod KindsKeep
pub mod CallersFollow
