use Rattle.std.proofs.Common.{◌≡◌, map, take}
use Rattle.vx_arrays.specs.Compared.{bare}
use Rattle.vx_arrays.proofs.encodings.varbinview.are_same.Given as goal

-- the buffers so far have the same bytes
abbrev pub invariant-loop-i : goal.invariant-loop-i
invariant-loop-i l = map bare (take l.i l.buffers) ≡ map bare (take l.i l.others)
