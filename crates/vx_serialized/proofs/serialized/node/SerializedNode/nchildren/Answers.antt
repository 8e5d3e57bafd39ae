use Rattle.std.proofs.Common.{ap}
use Rattle.vx_serialized.specs.Serialized.{Serialized}
use Rattle.vx_serialized.proofs.SerializedNodes.{children-counted, none-counted}
use Rattle.vx_serialized.proofs.serialized.node.SerializedNode.nchildren.Goals as goal

pub returns-in-Some : goal.returns-in-Some
returns-in-Some c =
    children-counted c.self.inside.view c.self.invariant.of c.in-Some.children c.in-Some.ensures.part c.in-Some.ensures.below c.in-Some.ensures.kind c.args.self.now.root c.len.result
    (ap (λ (a : Serialized). a.root) c.self.view_is) c.len.ensures.elements

pub returns-in-None : goal.returns-in-None
returns-in-None c = none-counted c.self.inside.view c.self.invariant.of c.args.self.now.root (ap (λ (a : Serialized). a.root) c.self.view_is) c.in-None.ensures.part
