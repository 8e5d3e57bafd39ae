use Rattle.std.proofs.Common.{◌≡◌, take}
use Rattle.vx_trees.specs.Rose.{roses_of}
use Rattle.vx_types.specs.Seen.{typs}
use Rattle.vx_array_tree.specs.Place.{places_at}
use Rattle.vx_array_tree.specs.Tree.{places}
use Rattle.vx_arrays.proofs.encodings.structs.are_columns.Given as goal

-- the columns so far are those of the first fields
abbrev pub invariant-loop-i : goal.invariant-loop-i
invariant-loop-i l = places (roses_of (take l.i l.columns)) ≡ places_at (roses_of (typs (take l.i l.types))) l.len
