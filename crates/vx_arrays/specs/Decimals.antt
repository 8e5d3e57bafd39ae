-- What is made where an array of decimals is asked for.
use Rattle.std.specs.Prelude.{ℕ, Option}
use Rattle.vx_buffer.specs.Buffer.{Buffer}
use Rattle.vx_trees.specs.Rose.{node, end}
use Rattle.vx_types.specs.Digits.{Digits}
use Rattle.vx_types.specs.Kind.{decimal}
use Rattle.vx_numbers.specs.declared.decimal_type.DecimalType.{DecimalType}
use Rattle.vx_types.specs.declared.nullability.Nullability.{Nullability}
use Rattle.vx_array_tree.specs.Body as B
use Rattle.vx_array_tree.specs.Tree.{Tree, option_trees, untold}

-- n decimals of some digits, by integers of a width, in a buffer: a node over the validity, if any.
abbrev pub decimal_tree : Buffer → DecimalType → Digits → Nullability → ℕ → Option Tree → Tree
decimal_tree values width digits m n validity =
    node (untold (node (decimal digits.precision digits.scale m) end) n (B.decimal (record { values = values; values_type = width })))
    (option_trees validity)
