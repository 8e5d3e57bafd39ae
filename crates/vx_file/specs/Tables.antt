-- Tables: arrays of structures, by their columns.
use Rattle.std.specs.Prelude.{ℕ, ◌≡◌, ◌⊎◌, List}
use Rattle.vx_trees.specs.Rose.{label, below, roses_of, roses_list}
use Rattle.vx_types.specs.Typ.{Typ}
use Rattle.vx_types.specs.Words.{nullability}
use Rattle.vx_types.specs.declared.nullability.Nullability.TheVariants.{NonNullable, Nullable}
use Rattle.vx_array_tree.specs.Body as B
use Rattle.vx_array_tree.specs.Tree.{Tree}

-- An array is a table of these columns: a node of structures of a type, with so many rows, over the columns and nothing else.
-- What statistics it has itself is not looked at.
pub record IsTable (t : Tree) (d : Typ) (n : ℕ) (columns : List Tree) : Type 0 where
  pub dtype : (label t).dtype ≡ d
  pub len : (label t).len ≡ n
  pub body : (label t).body ≡ B.struct
  pub below_is : below t ≡ roses_of columns

-- The columns of a table.
abbrev pub columns_of : Tree → List Tree
columns_of t = roses_list (below t)

-- An array is encoded as structures of which no row is null.
pub record IsPlainTable (t : Tree) : Type 0 where
  pub body : (label t).body ≡ B.struct
  pub not_null : nullability (label t).dtype ≡ NonNullable

-- An array is no table: it is not encoded as structures, or its rows may be null.
abbrev pub IsNoTable : Tree → Type 0
IsNoTable t = ((label t).body ≡ B.struct → ⊥) ⊎ (nullability (label t).dtype ≡ Nullable)
