pub mod Overtaking
pub mod Order
pub mod OpenCalls
