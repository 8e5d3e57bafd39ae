pub mod ArraySchema
pub mod Message
pub mod FieldCode
pub mod StatNames
pub mod Blob
pub mod Serialized
pub mod Errors
pub mod Opening
pub mod Overrides
pub mod Stored
pub mod Causes
pub mod Carried
pub mod Refusals
-- What only the contracts of private functions cite.
pub mod Decoding
pub mod ReadingSteps
