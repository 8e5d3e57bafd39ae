pub mod Commands
pub mod Outcome
-- What only the contracts of private functions cite.
pub mod CommandViews
