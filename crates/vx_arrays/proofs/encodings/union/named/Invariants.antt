use Rattle.std.proofs.Common.{◌≡◌, drop}
use Rattle.vx_trees.specs.Rose.{roses_of}
use Rattle.vx_types.specs.Fits.{member}
use Rattle.vx_arrays.proofs.encodings.union.named.Given as goal

-- the members so far are not named
abbrev pub invariant-loop-i : goal.invariant-loop-i
invariant-loop-i l = member l.number (drop l.i l.ids) (roses_of (drop l.i l.members)) ≡ member l.number l.ids (roses_of l.members)
