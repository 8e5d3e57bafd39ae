pub mod Plugin
pub mod Session
pub mod Meaning
pub mod Serialization
