mod Form
mod Lists
mod Digits
mod OneValue
mod Inversions
mod Leaves
mod Held
mod Refused
mod Complete
mod Calls
mod Gathered
pub mod LawsScalars
mod Chains
mod StatsEntries
mod StatsWays
mod StatsRead
mod StatsValues
mod StatsBack
pub mod LawsStats
pub mod LawsWriting
