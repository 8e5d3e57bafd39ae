-- Rows of which one is no natural number, or falls, are no offsets.
use Rattle.std.proofs.Common.{arith}
use Rattle.std.proofs.lemmas.Bool.{false≢true}
use Rattle.vx_array_tree.specs.Tree.{rows_of}
use Rattle.vx_arrays.proofs.Rising.{none_unnatural, none_decreases}
use Rattle.vx_arrays.proofs.offsets.are_offsets_by_rows.Goals as goal

pub returns-in-None : goal.returns-in-None
returns-in-None c = (
  λ t. absurd (false≢true t),
  λ o. absurd (none_unnatural (rows_of c.args.offsets.now) c.args.parts c.args.total c.loop-i.i c.in-None.ensures.none (omega arith) o),
)

pub returns-then-offset-last : goal.returns-then-offset-last
returns-then-offset-last c = (
  λ t. absurd (false≢true t),
  λ o. absurd (none_decreases (rows_of c.args.offsets.now) c.args.parts c.args.total c.loop-i.i c.loop-i.last c.in-Some.offset c.loop-i.invariant c.in-Some.ensures.value (omega arith) c.if-offset-last.true o),
)
