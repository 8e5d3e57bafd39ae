use Rattle.std.proofs.Common.{◌≡◌, ◌++◌, drop}
use Rattle.vx_trees.specs.Rose.{roses_of}
use Rattle.vx_types.specs.Seen.{typs}
use Rattle.vx_array_tree.specs.Place.{places_at}
use Rattle.vx_encodings.proofs.encodings.structs.with_fields.Given as goal

-- The places so far, and after them those of the fields that are left, are all the places.
abbrev pub invariant-loop-dtype : goal.invariant-loop-dtype
invariant-loop-dtype l = l.plans ++ places_at (roses_of (typs (drop l.dtype-index l.types))) l.len ≡ l.fn.front ++ places_at (roses_of (typs l.types)) l.len
