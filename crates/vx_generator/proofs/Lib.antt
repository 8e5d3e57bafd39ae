mod Grown
mod Sound
mod Fitting
mod Tabled
mod Bits
mod Pieces
mod Rows
pub mod Laws
mod Worked
