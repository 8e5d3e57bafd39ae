-- Sizes of values, of scalars and of rows, by which recursion ends: each part of a value is smaller than the value.
use Rattle.std.specs.Prelude.{ℕ, List, ◌+◌, ◌*◌}
use Rattle.vx_trees.specs.Rose.{roses_of}
use Rattle.vx_trees.specs.Walks.{nodes, nodes_of}
use Rattle.vx_types.specs.Value.{Value}
use Rattle.vx_scalars.specs.Told.{Typed}

-- Four times the number of nodes, so that each part has a size between that of a value and those within it.
abbrev pub value_size : Value → ℕ
value_size v = 4 * nodes v

abbrev pub values_size : List Value → ℕ
values_size vs = 4 * nodes_of (roses_of vs) + 3

abbrev pub slice_size : List Value → ℕ
slice_size vs = 4 * nodes_of (roses_of vs) + 2

abbrev pub ref_size : Value → ℕ
ref_size v = 4 * nodes v + 1

abbrev pub typed_size : Typed → ℕ
typed_size s = 4 * nodes s.value + 2

abbrev pub variant_size : Typed → ℕ
variant_size s = 4 * nodes s.value + 3
