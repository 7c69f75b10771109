-- Each effect keeps the shape: what the steps share, a file for each effect, and all together.
pub mod FlagLists
pub mod SpentCauses
pub mod QuietStep
pub mod FlagSet
pub mod ChangeMade
pub mod FlagCleared
pub mod ChangeDecided
pub mod EachEffect
