mod SameRows
mod LongViews
pub mod LawsOfCells
mod Merged
mod Fieldwise
mod Scalared
