pub mod OfKinds
pub mod Goes
pub mod Stays
