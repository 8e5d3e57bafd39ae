mod Contents
mod Lists
mod Trees
mod Nullabilities
mod FitsAgain
pub mod LawsOfTypes
