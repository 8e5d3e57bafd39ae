mod Completeness
mod Endings
mod Expressions
mod MakeEndings
mod MakeSteps
mod OptionFronts
mod OptionSettings
mod OwnNames
mod Recodings
mod Sessions
mod SevenWords
mod SixWords
mod Tables
-- For the proofs of other crates.
pub mod Laws
