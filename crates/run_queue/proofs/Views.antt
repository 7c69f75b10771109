-- How the queue sees what a machine becomes by a step.
pub mod CallViews
pub mod WorkViews
pub mod HelpViews
