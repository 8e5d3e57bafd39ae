use Rattle.std.proofs.Common.{ap, sym, ◌∙◌}
use Rattle.vx_trees.specs.Rose.{below, count}
use Rattle.vx_trees.proofs.Lists.{count-roses_of}
use Rattle.vx_array_tree.specs.Tree.{Tree}
use Rattle.vx_serde.proofs.taken.TakenRoot.nchildren.Goals as goal

pub returns-in-None : goal.returns-in-None
returns-in-None c = rw c.in-None.is (sym (count-roses_of c.children.result.now) ∙ ap (λ z. count z) c.children.ensures.children ∙ ap (λ (t : Tree). count (below t)) c.array.ensures)
