use Rattle.std.proofs.Common.{[], ◌∷◌, ◌++◌, take, ap, sym, ◌∙◌, append_assoc}
use Rattle.vx_trees.specs.Rose.{label}
use Rattle.vx_array_tree.specs.Table.{buffers_of}
use Rattle.vx_serde.proofs.ListSteps.{take_next}
use Rattle.vx_serde.proofs.gathering.push_own.Goals as goal

pub loop-i-preserved : goal.loop-i-preserved
loop-i-preserved c =
    let b = c.buffer.result.now in
    let xs = buffers_of (label c.args.array.now).body in
    c.in_ok-push.ensures ∙ ap (λ z. z ++ b ∷ []) c.loop-i.invariant ∙ append_assoc c.args.found.now (take c.loop-i.i xs) (b ∷ []) ∙ ap (λ z. c.args.found.now ++ z) (sym (take_next xs c.loop-i.i b c.buffer.ensures))
