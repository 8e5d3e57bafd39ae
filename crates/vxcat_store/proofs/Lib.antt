mod AskedNames
mod BlobStatuses
mod DecimalNumbers
mod IdLines
mod KnownText
mod Listings
mod RowTexts
mod UnionTexts
-- For the proofs of other crates.
pub mod Laws
