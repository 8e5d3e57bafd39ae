use Rattle.std.proofs.Common.{List, ◌++◌, take}
use Rattle.vx_array_tree.specs.Merge.{Named}
use Rattle.vx_rows.specs.Merging.{AreNamed, listed, other_at, raw_of}
use Rattle.vx_rows.proofs.merging.push_others.Given as goal

-- the first names are gone over, after what was there
abbrev pub invariant-loop-name : goal.invariant-loop-name
invariant-loop-name l = (fs : List Named) → AreNamed l.fn.fields fs → AreNamed l.fields (fs ++ listed (other_at (raw_of l.typed) (raw_of l.raw)) (take l.name-index l.name-items))
