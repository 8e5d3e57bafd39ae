pub mod ExprCommand
pub mod MakeCommand
pub mod Options
pub mod Recode
-- How the words of a command are seen, for the contracts of its functions.
pub mod GivenOptions
pub mod MakeViews
pub mod RecodeViews
