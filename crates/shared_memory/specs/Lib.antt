pub mod ProvedSetup
pub mod Views
pub mod Rule
pub mod Closing
