-- A step of each phase keeps what holds of the queue, and what each seat knows of it.
pub mod Beside
pub mod Owners
pub mod WonRecords
pub mod RecordExchanges
pub mod WorkMoves
pub mod FastMoves
pub mod CallMoves
pub mod PhaseMoves
