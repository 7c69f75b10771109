pub mod MemoryMap
pub mod Opening
