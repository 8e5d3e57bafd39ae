pub mod Draws
pub mod Columns
pub mod Made
pub mod Summary
pub mod Rows
