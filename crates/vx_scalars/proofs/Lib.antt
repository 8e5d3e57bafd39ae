mod Entries
pub mod LawsStats
pub mod LawsOfLists
