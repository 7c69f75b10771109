pub mod ProvedLaws
