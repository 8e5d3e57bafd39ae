-- The validity that a node may have as its only child.
use Rattle.std.specs.Prelude.{ℕ, ◌≡◌, ◌+◌, ◌/◌, [], None, Some, replicate}
use Rattle.vx_trees.specs.Rose.{count}
use Rattle.vx_types.specs.declared.nullability.Nullability.{Nullability}
use Rattle.vx_types.specs.declared.nullability.Nullability.TheVariants.{NonNullable, Nullable}
use Rattle.vx_array_tree.specs.Place.{before_validity}
use Rattle.vx_array_tree.specs.Tree.{Tree, Trees, places}
use Rattle.vx_arrays.specs.Bools.{bool_tree}

-- The children of a node of n rows and this nullability are a validity or none: it stands where a validity is
-- planned, and only where rows may be null.
pub record IsValidity (m : Nullability) (n : ℕ) (ts : Trees) : Type 0 where
  pub planned : before_validity [] n (count ts) ≡ Some (places ts)
  pub allowed : count ts ≡ 1 → m ≡ Nullable

-- The validity of n rows that are all null: a bit of 0 for each, in the fewest bytes.
abbrev pub all_invalid : ℕ → Tree
all_invalid n = bool_tree (record { bytes = replicate ((n + 7) / 8) 0; exponent = 0 }) 0 n NonNullable None
