-- How the record of a seat goes on by a move.
pub mod Goes
