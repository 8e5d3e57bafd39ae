use Rattle.std.proofs.Common.{◌∙◌, ap, sym, arith}
use Rattle.std.proofs.lemmas.List.{take_all}
use Rattle.vx_trees.specs.Rose.{roses_of}
use Rattle.vx_trees.proofs.Lists.{roses_of-roses_list}
use Rattle.vx_registry.proofs.serialization.copies.Goals as goal

pub returns-clause-ok : goal.returns-clause-ok
returns-clause-ok c =
    sym (roses_of-roses_list c.loop-array.copies)
    ∙ ap (λ ts. roses_of ts) (c.loop-array.invariant ∙ take_all c.loop-array.array-index c.args.arrays.now (omega arith))
