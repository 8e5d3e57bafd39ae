use Rattle.vx_rows.proofs.Fieldwise.{Searches}
use Rattle.vx_rows.proofs.merging.field_in.Given as goal

-- the fields so far have other names
abbrev pub invariant-loop-i : goal.invariant-loop-i
invariant-loop-i l = Searches l.name l.names l.types l.values l.i
