use Rattle.std.proofs.Common.{ap, sym, ◌∙◌}
use Rattle.vx_serialized.specs.Message.{bytes_of_field, indices_of}
use Rattle.vx_serialized.specs.Serialized.{Serialized}
use Rattle.vx_serialized.proofs.SerializedNodes.{buffers_told}
use Rattle.vx_serialized.proofs.serialized.node.SerializedNode.indices.Goals as goal

pub returns-in-Some : goal.returns-in-Some
returns-in-Some c =
    sym (buffers_told c.self.inside.view c.self.invariant.of c.args.self.now.root (ap (λ (a : Serialized). a.root) c.self.view_is) ∙ ap (λ f. indices_of (bytes_of_field f)) c.in-Some.ensures)
