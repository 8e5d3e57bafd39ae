use Rattle.std.proofs.Common.{ap, ◌∙◌}
use Rattle.vx_trees.specs.Rose.{below}
use Rattle.vx_array_tree.specs.Tree.{Tree}
use Rattle.vx_registry.specs.Serialization.{array_id}
use Rattle.vx_serde.specs.Taking.{source_tree, taken_below}
use Rattle.vx_serde.proofs.Taking.{own_id, given_id}
use Rattle.vx_serde.proofs.taken.TakenNode.written_id.Goals as goal

pub returns-in-Ok-clause-ok : goal.returns-in-Ok-clause-ok
returns-in-Ok-clause-ok c =
    let n = c.self.inside in
    c.in-Ok.ensures.ok ∙ ap (λ g. g.id) c.deref.ensures ∙ given_id (source_tree n.source) (taken_below (below (source_tree n.source)) n.children) c.args.self.now n.given c.in-Some.given c.in-Some.is c.self.view_is c.args.two

pub returns-in-Ok-written_id-clause-ok : goal.returns-in-Ok-written_id-clause-ok
returns-in-Ok-written_id-clause-ok c =
    let n = c.self.inside in
    c.in-Ok-written_id.ensures.ok ∙ ap (λ (z : Tree). array_id c.args.two z) c.array.ensures ∙ own_id (source_tree n.source) (taken_below (below (source_tree n.source)) n.children) c.args.self.now n.given c.in-None.is c.self.view_is c.args.two
