use Rattle.std.proofs.Common.{◌≡◌, drop}
use Rattle.vx_trees.specs.Rose.{roses_of}
use Rattle.vx_types.specs.Fits.{member}
use Rattle.vx_types.specs.Seen.{typs}
use Rattle.vxcat_store.proofs.row_text.named.Given as goal

-- No member so far has the tag.
abbrev pub invariant-loop-i : goal.invariant-loop-i
invariant-loop-i l = member l.tag (drop l.i l.ids) (roses_of (typs (drop l.i l.dtypes))) ≡ member l.tag l.ids (roses_of (typs l.dtypes))
