pub mod Orders
pub mod Verdicts
pub mod Tables
pub mod Judging
pub mod CallLines
pub mod Beginnings
pub mod Reports
pub mod Sayings
