-- A member with another tag is not the one with this tag.
use Rattle.std.proofs.Common.{◌<◌, length, min, arith}
use Rattle.vxcat_store.proofs.UnionTexts.{named_next}
use Rattle.vxcat_store.proofs.row_text.named.Goals as goal

pub loop-i-preserved : goal.loop-i-preserved
loop-i-preserved c =
    let l : c.loop-i.i < min (length c.args.ids.now) (length c.args.dtypes.now) = omega (arith, c.loop-i-test.true, c.min-i-end.ensures) in
    named_next c.args.tag c.args.ids.now c.args.dtypes.now c.loop-i.i 0 l c.loop-i.invariant c.if-ids-i.false
