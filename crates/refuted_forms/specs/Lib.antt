pub mod QueueForms
pub mod ListForms
