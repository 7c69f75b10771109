pub mod CallsLeave
pub mod Answers
pub mod Keys
pub mod Ops
pub mod Telling
