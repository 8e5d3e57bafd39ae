pub mod Tested
pub mod Odd
pub mod OddLaws
pub mod Asking
pub mod AskingLaws
pub mod Versioned
pub mod VersionedLaws
pub mod Meanings
