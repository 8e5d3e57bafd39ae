use Rattle.std.proofs.Common.{length, ap, ◌∙◌}
use Rattle.vx_trees.specs.Rose.{label, below}
use Rattle.vx_array_tree.specs.Table.{buffers_of}
use Rattle.vx_array_tree.specs.Tree.{Tree}
use Rattle.vx_serde.specs.Taking.{source_tree, taken_below}
use Rattle.vx_serde.proofs.Taking.{own_buffers, given_buffers}
use Rattle.vx_serde.proofs.taken.TakenNode.nbuffers.Goals as goal

pub returns-in-Some : goal.returns-in-Some
returns-in-Some c =
    let n = c.self.inside in
    c.len.ensures ∙ ap (λ g. length g.buffers) c.deref.ensures ∙ ap (λ z. length z) (given_buffers (source_tree n.source) (taken_below (below (source_tree n.source)) n.children) c.args.self.now n.given c.in-Some.given c.in-Some.is c.self.view_is)

pub returns-in-None : goal.returns-in-None
returns-in-None c =
    let n = c.self.inside in
    c.nbuffers.ensures ∙ ap (λ (z : Tree). length (buffers_of (label z).body)) c.array.ensures ∙ ap (λ z. length z) (own_buffers (source_tree n.source) (taken_below (below (source_tree n.source)) n.children) c.args.self.now n.given c.in-None.is c.self.view_is)
