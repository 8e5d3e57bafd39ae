-- A member whose tag is another one is not named.
use Rattle.std.proofs.Common.{◌<◌, length, arith}
use Rattle.std.specs.Prelude.{min}
use Rattle.vx_arrays.proofs.Tagged.{named_next}
use Rattle.vx_arrays.proofs.encodings.union.named.Goals as goal

pub loop-i-preserved : goal.loop-i-preserved
loop-i-preserved c =
    let l : c.loop-i.i < min (length c.args.ids.now) (length c.args.members.now) = omega (arith, c.loop-i-test.true, c.min-i-end.ensures) in
    named_next c.args.number c.args.ids.now c.args.members.now c.loop-i.i 0 l c.loop-i.invariant c.if-ids-i.false
