use Rattle.std.proofs.Common.{◌<◌, Some, length, arith, ap, sym, ◌∙◌}
use Rattle.std.proofs.lemmas.Result.{IfOk-weaker}
use Rattle.vx_trees.specs.Rose.{count}
use Rattle.vx_trees.proofs.Lists.{count-roses_of}
use Rattle.vx_serde.proofs.TakenBelow.{item_below}
use Rattle.vx_serde.proofs.taken.TakenRoot.child.Goals as goal

pub item_at-array-requires : goal.item_at-array-requires
item_at-array-requires c =
    let r : c.args.i < count c.in-Some.parts.children = rw c.in-Some.is at c.requires in
    omega (arith, r, count-roses_of c.as_slice-arrays.result.now, ap (λ z. count z) c.as_slice-arrays.ensures.items)

pub returns-in-Some-clause-ok : goal.returns-in-Some-clause-ok
returns-in-Some-clause-ok c =
    let xs = c.as_slice-arrays.result.now in
    let r : c.args.i < count c.in-Some.parts.children = rw c.in-Some.is at c.requires in
    let lt : c.args.i < length xs = omega (arith, r, count-roses_of xs, ap (λ z. count z) c.as_slice-arrays.ensures.items) in
    rw c.in-Some.is (IfOk-weaker c.copy_of.result _ _ (λ s e. item_below xs c.in-Some.parts.children c.args.i _ c.as_slice-arrays.ensures.items lt c.item_at-array.ensures ∙ ap (λ z. Some z) (sym e)) c.copy_of.ensures.ok)
