-- Rounds of records, blocks that were named, in hand and claimed.
pub mod RoundSteps
pub mod RoundMoves
pub mod RoundLaws
pub mod HandSteps
pub mod HandMoves
pub mod HandLaws
