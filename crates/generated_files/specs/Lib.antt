pub mod Numbers
pub mod Generated
