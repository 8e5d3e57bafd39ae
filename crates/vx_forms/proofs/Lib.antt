pub mod Readers
pub mod LawsOfForms
pub mod LawsOfBytes
pub mod LawsOfNumbers
pub mod LawsOfTested
pub mod LawsOfPairs
pub mod LawsOfMapped
pub mod LawsOfOctets
pub mod LawsOfLists
pub mod LawsOfPrefixed
pub mod ListSteps
pub mod LawsOfFrames
mod TextsRead
mod FramesFound
