mod Pieces
mod NodeTold
mod StatsRead
mod SerializedNodes
mod StandingNames
mod OverriddenBuffers
mod StoredMessages
mod DecodedNodes
mod KeptNodes
mod EntrySteps
-- For the proofs of other crates.
pub mod LawsOfAnswers
pub mod LawsOfBlobs
pub mod LawsOfTrees
pub mod LawsOfRefusals
