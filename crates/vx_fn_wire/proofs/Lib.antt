mod Forms
mod Lists
mod Texts
mod Given
mod AggregateParts
mod ExprParts
mod ReadNodes
mod ReadExprs
pub mod LawsOfExpressions
mod ReadBytes
