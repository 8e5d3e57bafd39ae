use Rattle.std.proofs.Common.{ap, ◌∙◌}
use Rattle.std.proofs.lemmas.Result.{IfOk-weaker}
use Rattle.vx_trees.specs.Rose.{label, below}
use Rattle.vx_array_tree.specs.Sound.{metadata_in}
use Rattle.vx_array_tree.specs.Tree.{Tree}
use Rattle.vx_wire_tree.specs.Fields.{told}
use Rattle.vx_encodings.specs.Messages.{message_bytes}
use Rattle.vx_serde.specs.Taking.{source_tree, taken_below}
use Rattle.vx_serde.proofs.Taking.{own_bytes, given_bytes}
use Rattle.vx_serde.proofs.taken.TakenNode.metadata.Goals as goal

pub returns-in-Ok-clause-ok : goal.returns-in-Ok-clause-ok
returns-in-Ok-clause-ok c =
    let n = c.self.inside in
    c.in-Ok.ensures.ok ∙ ap (λ g. g.metadata) c.deref.ensures ∙ given_bytes (source_tree n.source) (taken_below (below (source_tree n.source)) n.children) c.args.self.now n.given c.in-Some.given c.in-Some.is c.self.view_is

pub returns-in-None-clause-ok : goal.returns-in-None-clause-ok
returns-in-None-clause-ok c =
    let n = c.self.inside in
    IfOk-weaker c.own_metadata.result _ _
    (λ bytes h. h ∙ ap (λ (z : Tree). message_bytes (told (metadata_in (label z) (below z)))) c.array.ensures ∙ own_bytes (source_tree n.source) (taken_below (below (source_tree n.source)) n.children) c.args.self.now n.given c.in-None.is c.self.view_is c.self.invariant)
    c.own_metadata.ensures.ok
