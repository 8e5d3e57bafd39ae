-- What is made where a dictionary is asked for.
use Rattle.std.specs.Prelude.{ℕ, ◌≡◌, Bool, IsTrue}
use Rattle.vx_trees.specs.Rose.{node, end, more, label}
use Rattle.vx_types.specs.Kind.{primitive}
use Rattle.vx_numbers.specs.Numbers.{is_integer}
use Rattle.vx_types.specs.Typ.{Typ}
use Rattle.vx_types.specs.Words.{nullability}
use Rattle.vx_array_tree.specs.Body as B
use Rattle.vx_array_tree.specs.Encodings.Dicts.{raised}
use Rattle.vx_array_tree.specs.Tree.{Head, Tree, untold}

-- A node whose rows are named by codes, with the flag that it holds.
abbrev pub dict_head : Typ → ℕ → Bool → Head
dict_head d n b = untold d n (B.dict (record { all_values_referenced = b }))

-- A dictionary: a node over its codes and its values, with as many rows as codes, and of the values' type with the nullability
-- that the codes bring.
abbrev pub dict_tree : Tree → Tree → Bool → Tree
dict_tree codes values b =
    node (dict_head (raised (nullability (label codes).dtype) (label values).dtype) (label codes).len b) (more codes (more values end))

-- The types of codes: integers, which may be null.
abbrev pub IsOfCodes : Typ → Type 0
IsOfCodes (node (primitive p m) end) = IsTrue (is_integer p)
IsOfCodes _ = ⊥

-- Codes and values are the children of a dictionary of this type and n rows.
pub record AreDictChildren (d : Typ) (n : ℕ) (codes values : Tree) : Type 0 where
  pub kind : IsOfCodes (label codes).dtype
  pub counted : (label codes).len ≡ n
  pub typed : raised (nullability (label codes).dtype) (label values).dtype ≡ d
