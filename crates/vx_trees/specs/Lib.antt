pub mod Rose
pub mod Walks
pub mod Everywhere
pub mod Preorder
pub mod ReadBack
pub mod Codes
pub mod Same
pub mod Bytes
