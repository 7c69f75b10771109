-- What a move adds to the won exchanges and to the changes, and for whose call.
pub mod Items
pub mod Adds
