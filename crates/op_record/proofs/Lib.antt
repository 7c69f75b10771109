pub mod OutcomesReadBack
pub mod RecordOrder
