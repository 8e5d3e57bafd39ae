pub mod LawsOfSizes
