pub mod Ranges
pub mod MasksAndShifts
pub mod ChangedWords
pub mod SeatsOfQueueWords
pub mod MembersOfWords
pub mod RecordWords
pub mod AnnouncedWords
pub mod PayloadParts
