use Rattle.std.proofs.Common.{◌∙◌, ap, sym}
use Rattle.vx_trees.specs.Rose.{node, label, roses_of}
use Rattle.vx_serde.specs.Taking.{source_tree}
use Rattle.vx_serde.proofs.TakenBelow.{own_tree, whole_tree}
use Rattle.vx_serde.proofs.taken.TakenRoot.over.Goals as goal

pub returns-then-own-clause-ok : goal.returns-then-own-clause-ok
returns-then-own-clause-ok c = whole_tree (source_tree c.args.self.source) ∙ sym (own_tree c.args.self c.args.children.items (c.requires.own c.if-own.true))

pub returns-in-Ok-clause-ok : goal.returns-in-Ok-clause-ok
returns-in-Ok-clause-ok c = ap (λ h. node h (roses_of c.args.children.items)) (c.in-Ok.ensures.head (label (source_tree c.args.self.source)))
