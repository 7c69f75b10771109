-- A seat's own steps.
pub mod Results
pub mod GatherSteps
pub mod EnterSteps
pub mod HelpsWithoutChange
pub mod WonSteps
pub mod AnnounceAndCollect
pub mod OwnerSteps
pub mod HelperSteps
pub mod EveryStep
