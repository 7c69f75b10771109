pub mod Made
pub mod Lost
