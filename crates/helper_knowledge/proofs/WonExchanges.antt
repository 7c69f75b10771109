-- What a helper knows is enough where it wins an exchange of the record.
pub mod Names
pub mod Completes
pub mod Settles
pub mod Advances
