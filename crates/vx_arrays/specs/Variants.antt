-- What is made where an array of variants is asked for, and how its node is split.
use Rattle.std.specs.Prelude.{ℕ, ◌≡◌, Option, max}
use Rattle.vx_trees.specs.Rose.{node, end, more, label}
use Rattle.vx_types.specs.Kind.{variant as variant_kind}
use Rattle.vx_types.specs.Typ.{Typ}
use Rattle.vx_types.specs.Value.{Value, value_cells}
use Rattle.vx_array_tree.specs.Body as B
use Rattle.vx_array_tree.specs.Encodings.Variants.{row_over}
use Rattle.vx_array_tree.specs.Tree.{Tree, Trees, cells, option_trees, row_at, untold}

-- A variant node over its core and, if any, the shredded child: of the core's type, and with as many rows.
abbrev pub variant_tree : Tree → Option Tree → Tree
variant_tree core shredded = node (untold (label core).dtype (label core).len B.variant) (more core (option_trees shredded))

-- The row of a shredded child over a core's.
abbrev pub merged_row : Tree → Tree → ℕ → Value
merged_row core shredded i = row_over (label shredded).dtype (row_at shredded i) (row_at core i)

-- How many cells it takes: the greatest of its own, the core's row's and the shredded row's.
abbrev pub merged_cells : Tree → Tree → ℕ → ℕ
merged_cells core shredded i = max (value_cells (merged_row core shredded i)) (max (cells core i) (cells shredded i))

-- The types of variants.
abbrev pub IsOfVariants : Typ → Type 0
IsOfVariants (node (variant_kind m) end) = Unit {0}
IsOfVariants _ = ⊥

-- Each of these arrays has n rows.
abbrev pub AreRows : ℕ → Trees → Type 0
AreRows n end = Unit {0}
AreRows n (more t ts) = ((label t).len ≡ n) × AreRows n ts
