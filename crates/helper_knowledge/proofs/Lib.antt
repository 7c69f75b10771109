pub mod Offers
pub mod Kept
pub mod Own
pub mod WonExchanges
pub mod Queue
pub mod LawsOfHelpers
