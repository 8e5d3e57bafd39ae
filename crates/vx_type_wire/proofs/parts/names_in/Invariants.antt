use Rattle.std.proofs.Common.{◌≡◌, ◌++◌, drop}
use Rattle.vx_flat.specs.Seen.{vector_seen}
use Rattle.vx_flat.proofs.LawsOfViews.{strings_in}
use Rattle.vx_type_wire.proofs.parts.names_in.Given as goal

abbrev pub invariant-loop-i : goal.invariant-loop-i
invariant-loop-i l = l.names ++ drop l.i (strings_in (vector_seen l.texts)) ≡ strings_in (vector_seen l.texts)
