-- What is made where an array of lists of one size is asked for.
use Rattle.std.specs.Prelude.{ℕ, Option}
use Rattle.vx_trees.specs.Rose.{node, end, more, label}
use Rattle.vx_types.specs.Kind.{fixed_size_list}
use Rattle.vx_types.specs.Typ.{Typ}
use Rattle.vx_types.specs.declared.nullability.Nullability.{Nullability}
use Rattle.vx_array_tree.specs.Body as B
use Rattle.vx_array_tree.specs.Tree.{Head, Tree, option_trees, untold}

-- A list node of n elements of a type.
abbrev pub fixed_size_list_head : Typ → ℕ → Nullability → ℕ → Head
fixed_size_list_head e s m n = untold (node (fixed_size_list s m) (more e end)) n B.fixed_size_list

-- n lists of the elements: a node over the elements and the validity, if any.
abbrev pub fixed_size_list_tree : Tree → ℕ → Nullability → ℕ → Option Tree → Tree
fixed_size_list_tree elements s m n validity = node (fixed_size_list_head (label elements).dtype s m n) (more elements (option_trees validity))

-- The types of lists of one size.
abbrev pub IsOfSize : Typ → Type 0
IsOfSize (node (fixed_size_list s m) (more e end)) = Unit {0}
IsOfSize _ = ⊥
