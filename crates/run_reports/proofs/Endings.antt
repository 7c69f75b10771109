-- How the calls that returned ended, over the changes of the run.
pub mod Stays
pub mod Vain
pub mod Lines
pub mod Accounted
