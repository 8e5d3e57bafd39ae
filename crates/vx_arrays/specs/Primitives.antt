-- What is made where an array of numbers is asked for.
use Rattle.std.specs.Prelude.{ℕ, Option}
use Rattle.vx_buffer.specs.Buffer.{Buffer}
use Rattle.vx_trees.specs.Rose.{node, end}
use Rattle.vx_types.specs.Kind.{primitive}
use Rattle.vx_types.specs.declared.nullability.Nullability.{Nullability}
use Rattle.vx_numbers.specs.declared.ptype.PType.{PType}
use Rattle.vx_array_tree.specs.Body as B
use Rattle.vx_array_tree.specs.Tree.{Tree, option_trees, untold}

-- n numbers of a kind, in a buffer: a node over the validity, if any.
abbrev pub primitive_tree : PType → Nullability → ℕ → Buffer → Option Tree → Tree
primitive_tree p m n values validity =
    node (untold (node (primitive p m) end) n (B.primitive (record { values = values }))) (option_trees validity)
