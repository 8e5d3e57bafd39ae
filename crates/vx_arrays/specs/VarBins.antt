-- What is made where an array of texts or of bytes by offsets is asked for, and how its node is split.
use Rattle.std.specs.Prelude.{ℕ, suc, ◌≡◌, ◌-◌, [], Option, Some, IsTrue}
use Rattle.vx_buffer.specs.Buffer.{Buffer}
use Rattle.vx_trees.specs.Rose.{node, end, more, label, count}
use Rattle.vx_types.specs.Kind.{primitive, utf8, binary}
use Rattle.vx_numbers.specs.Numbers.{is_integer}
use Rattle.vx_types.specs.Typ.{Typ}
use Rattle.vx_types.specs.declared.nullability.Nullability.TheVariants.{NonNullable}
use Rattle.vx_array_tree.specs.Body as B
use Rattle.vx_array_tree.specs.Place.{before_validity}
use Rattle.vx_array_tree.specs.Tree.{Head, Tree, Trees, option_trees, places, untold}

-- A node of rows whose bytes stand in a buffer.
abbrev pub varbin_head : Typ → ℕ → Buffer → Head
varbin_head d n bytes = untold d n (B.varbin (record { bytes = bytes }))

-- It stands over the offsets and the validity, if any.
abbrev pub varbin_node : Typ → ℕ → Tree → Buffer → Option Tree → Tree
varbin_node d n offsets bytes validity = node (varbin_head d n bytes) (more offsets (option_trees validity))

-- There is one row less than there are offsets.
abbrev pub varbin_tree : Typ → Tree → Buffer → Option Tree → Tree
varbin_tree d offsets bytes validity = varbin_node d ((label offsets).len - 1) offsets bytes validity

-- The types of texts and of bytes.
abbrev pub IsOfBytes : Typ → Type 0
IsOfBytes (node (utf8 m) end) = Unit {0}
IsOfBytes (node (binary m) end) = Unit {0}
IsOfBytes _ = ⊥

-- The types of offsets: non-nullable integers.
abbrev pub IsOfOffsets : Typ → Type 0
IsOfOffsets (node (primitive p NonNullable) end) = IsTrue (is_integer p)
IsOfOffsets _ = ⊥

-- The children of a node of n rows are offsets, one more than there are rows, and what stands after them as its
-- validity.
pub record IsSplit (n : ℕ) (offsets : Tree) (after : Trees) : Type 0 where
  pub counted : (label offsets).len ≡ suc n
  pub planned : before_validity [] n (count after) ≡ Some (places after)
