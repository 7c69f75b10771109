-- What the kinds of steps leave of a scene, and that what seats know stays true through the steps of others.
pub mod LearntStays
pub mod QuietActs
pub mod QueueActs
pub mod RecordActs
pub mod SeatKnowledgeStays
