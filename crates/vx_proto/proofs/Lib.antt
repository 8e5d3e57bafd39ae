mod Steps
mod Varint
mod CutOne
mod CutAll
mod Loops
mod Lasts
mod Views
mod Typed
mod Split
mod Judged
mod Causes
pub mod LawsOfMessages
pub mod LawsOfForms
pub mod LawsOfViews
pub mod LawsOfSlots
pub mod LawsOfParts
pub mod LawsOfRepeated
mod Spelled
mod Again
mod Formed
mod LawfulSlots
mod LawfulTest
mod Suffixes
mod Longer
mod Signs
mod Nests
mod CopySteps
pub mod LawsOfBytes
