-- Searches, wrap-ups and commands: what each asks for, learns and answers.
pub mod Commands
pub mod Searching
pub mod LeastSearching
pub mod Offers
pub mod Wrapping
pub mod Fitting
pub mod AtOnce
