-- Orders, and the verdicts on them.
pub mod Found
pub mod Judgeable
pub mod Judged
pub mod LegalIsRight
pub mod RightIsLegal
pub mod LegalOrders
pub mod Names
pub mod NamesRead
pub mod Replies
pub mod SetsOfBuckets
pub mod Steps
