-- The worked blob: the integers 1, 2, 3, 4 of four bytes each.
use Rattle.std.specs.Prelude.{ℕ, List, [], ◌∷◌, ◌++◌, None, false}
use Rattle.vx_trees.specs.Rose.{node, end}
use Rattle.vx_types.specs.Kind.{primitive}
use Rattle.vx_types.specs.declared.nullability.Nullability.TheVariants.{NonNullable}
use Rattle.vx_numbers.specs.declared.ptype.PType.TheVariants.{I32}
use Rattle.vx_array_tree.specs.Tree.{Tree, untold}
use Rattle.vx_array_tree.specs.Body as B
use Rattle.vx_flat_tests.specs.Worked.{array_message}
use Rattle.vx_wire_tree.specs.Context.{Context}
use Rattle.vx_serde.specs.declared.options.SerializeOptions.{SerializeOptions}

-- The numbers, each with its lowest byte first.
abbrev pub numbers : List ℕ
numbers = 1 ∷ 0 ∷ 0 ∷ 0 ∷ 2 ∷ 0 ∷ 0 ∷ 0 ∷ 3 ∷ 0 ∷ 0 ∷ 0 ∷ 4 ∷ 0 ∷ 0 ∷ 0 ∷ []

-- Their array: four rows of 32-bit signed integers that are not nullable, in one buffer that is aligned to 4.
abbrev pub integers : Tree
integers = node (untold (node (primitive I32 NonNullable) end) 4 (B.primitive (record { values = record { bytes = numbers; exponent = 2 } }))) end

-- A context without identifiers, which allows all.
abbrev pub no_ids : Context
no_ids = record { ids = []; allowed = None }

-- Written at position 0 and without pads.
abbrev pub unpadded : SerializeOptions
unpadded = record { offset = 0; include_padding = false; deep = false }

-- The blob: the numbers, the worked message of 148 bytes, and its length.
abbrev pub integers_blob : List ℕ
integers_blob = numbers ++ (array_message ++ (148 ∷ 0 ∷ 0 ∷ 0 ∷ []))
