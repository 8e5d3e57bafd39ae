pub mod Samples
pub mod SampleRows
pub mod SampleParts
pub mod SampleMerges
pub mod SoundSamples
pub mod SampleForeigns
pub mod BrokenSamples
pub mod SampleStats
