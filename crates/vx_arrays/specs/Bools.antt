-- What is made where an array of flags is asked for.
use Rattle.std.specs.Prelude.{ℕ, Option}
use Rattle.vx_buffer.specs.Buffer.{Buffer}
use Rattle.vx_trees.specs.Rose.{node, end}
use Rattle.vx_types.specs.Kind.{boolean}
use Rattle.vx_types.specs.declared.nullability.Nullability.{Nullability}
use Rattle.vx_array_tree.specs.Body as B
use Rattle.vx_array_tree.specs.Tree.{Tree, option_trees, untold}

-- n flags in a buffer of bits, from one of the bits on: a node over the validity, if any.
abbrev pub bool_tree : Buffer → ℕ → ℕ → Nullability → Option Tree → Tree
bool_tree bits offset n m validity =
    node (untold (node (boolean m) end) n (B.bool (record { bits = bits; offset = offset }))) (option_trees validity)
