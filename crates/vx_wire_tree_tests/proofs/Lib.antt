pub mod SampleWires
pub mod SampleContexts
pub mod SampleTold
pub mod SampleRaw
pub mod SampleRevised
pub mod SampleVariants
pub mod SampleMaps
