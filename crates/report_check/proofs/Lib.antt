pub mod Pairs
pub mod JudgedOrders
pub mod LineTexts
pub mod CallsRead
