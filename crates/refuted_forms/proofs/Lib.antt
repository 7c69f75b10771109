pub mod QueueWorlds
pub mod TailNotMoved
pub mod ListWorlds
pub mod SetBitsAndMarks
