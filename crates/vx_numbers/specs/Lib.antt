pub mod Numbers
pub mod Decimals
