pub mod Samples
pub mod BoolMetadata
pub mod TreeMetadata
