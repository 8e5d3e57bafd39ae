pub mod Buffer
pub mod Joined
