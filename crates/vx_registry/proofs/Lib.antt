mod Interning
mod Putting
mod Pairing
mod Meanings
mod Shipped
mod Roots
pub mod LawsSessions
pub mod LawsContexts
