pub mod Plain
pub mod Lone
pub mod Merging
pub mod RowScalars
pub mod Refused
pub mod Decreasing
