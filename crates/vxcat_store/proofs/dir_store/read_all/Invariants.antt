use Rattle.std.proofs.Common.{◌≤◌, length}
use Rattle.vxcat_store.proofs.dir_store.read_all.Given as goal

-- What was read is a prefix of the bytes.
abbrev pub invariant-loop : goal.invariant-loop
invariant-loop g l = l.end ≤ length l.bytes.items
