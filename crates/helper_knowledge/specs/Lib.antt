pub mod Callers
pub mod Carried
pub mod Knowing
pub mod WorkKnown
pub mod Meetings
pub mod HelperStep
pub mod KnowledgeLaws
pub mod CallLaws
