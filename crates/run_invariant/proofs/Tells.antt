-- What machines tell of their own calls.
pub mod NewChanges
pub mod ClosedRecords
pub mod Stays
pub mod Values
pub mod RunAnswers
pub mod Replies
pub mod OwnLists
pub mod StepTells
pub mod OwnTells
