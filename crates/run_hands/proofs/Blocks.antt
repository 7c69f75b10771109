pub mod OwnBlocks
pub mod Counts
pub mod Spending
pub mod Naming
pub mod Named
pub mod Used
pub mod Spare
