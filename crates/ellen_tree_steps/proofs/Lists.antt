-- What every allowed step leaves of the lists that set a flag, and of what they made and told.
pub mod Waiting
pub mod Setting
pub mod Made
pub mod Told
pub mod FlagsLast
pub mod Journals
