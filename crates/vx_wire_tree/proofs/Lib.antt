mod TwoIdentifiers
mod Natives
mod TakenPlaces
mod Unique
mod WrittenAlike
mod ReadAgain
mod NeverRefused
mod Kept
mod Matched
mod Built
mod Plugins
mod PluginsAgain
mod TakenOwn
pub mod Laws
