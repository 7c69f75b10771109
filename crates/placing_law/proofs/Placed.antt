-- A placed report is linearizable: the order of its calls.
pub mod ChangeItems
pub mod SettledCalls
pub mod CallOrder
