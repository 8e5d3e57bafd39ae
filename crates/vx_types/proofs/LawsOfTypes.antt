-- Laws of types and of lists of types, for the proofs of other crates.

-- A list of types has as many trees as types; the tree at an index is that of the type there.
pub use Rattle.vx_types.proofs.Lists.{typs-length, typs-at}
-- What fits a type fits its nullable form; what fits the storage of an extension, or the lists of a map's entries,
-- fits the extension or the map.
pub use Rattle.vx_types.proofs.FitsAgain.{bare_under, fits_nullable, fits_extension, fits_map}
-- A type under its own nullability is itself; of two changes of nullability the last counts.
pub use Rattle.vx_types.proofs.Nullabilities.{nullable_under, same_nullability, own_nullability, twice_nullability}
