-- What blocks hold, how far versions and changes have come, and what a run opens with.
pub mod ChangesBelow
pub mod Contents
pub mod Searches
pub mod Touches
pub mod Stored
pub mod MoveTouches
pub mod Versions
pub mod Announced
pub mod Opening
