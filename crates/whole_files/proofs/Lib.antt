pub mod Known
pub mod FirstNamed
