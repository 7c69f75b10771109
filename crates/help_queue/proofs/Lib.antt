pub mod SeatsGathered
pub mod StepsThatEnd
