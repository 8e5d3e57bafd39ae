use Rattle.std.proofs.Common.{◌≡◌, map, take}
use Rattle.vx_arrays.specs.Compared.{compared}
use Rattle.vx_arrays.proofs.array.Array.+array_eq.Given as goal

-- the children so far are equal
abbrev pub invariant-loop-i : goal.invariant-loop-i
invariant-loop-i l = map compared (take l.i l.children) ≡ map compared (take l.i l.others)
