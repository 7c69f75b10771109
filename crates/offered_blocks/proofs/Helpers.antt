-- The steps of helpers on the list of an offered block.
pub mod Deeds
pub mod OwnDeeds
pub mod BitsKept
pub mod RunKept
pub mod Allowed
pub mod Executes
pub mod HelperBlocks
pub mod Helping
pub mod Running
