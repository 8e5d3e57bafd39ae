use Rattle.std.proofs.Common.{ap, sym, ◌∙◌}
use Rattle.vx_serialized.specs.Message.{bytes_of_field}
use Rattle.vx_serialized.specs.Serialized.{Serialized}
use Rattle.vx_serialized.proofs.SerializedNodes.{metadata_told}
use Rattle.vx_serialized.proofs.serialized.node.SerializedNode.metadata.Goals as goal

pub returns-in-Some : goal.returns-in-Some
returns-in-Some c =
    sym (metadata_told c.self.inside.view c.self.invariant.of c.args.self.now.root (ap (λ (a : Serialized). a.root) c.self.view_is) ∙ ap (λ f. bytes_of_field f) c.in-Some.ensures)
