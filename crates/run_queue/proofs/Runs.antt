-- The steps put together: every run, and every seat of it.
pub mod Openings
pub mod RunMoves
pub mod SeatViews
