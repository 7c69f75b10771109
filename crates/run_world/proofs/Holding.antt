pub mod PlainSteps
pub mod HeldLists
pub mod CarriedWork
pub mod CarriedLists
