use Rattle.std.proofs.Common.{ap, sym, ◌∙◌, arith}
use Rattle.vx_serialized.specs.Message.{number_of_field}
use Rattle.vx_serialized.specs.Serialized.{Serialized}
use Rattle.vx_serialized.proofs.SerializedNodes.{encoding_told, encoding_small}
use Rattle.vx_serialized.proofs.serialized.node.SerializedNode.encoding_id.Goals as goal

pub overflow_cast-result : goal.overflow_cast-result
overflow_cast-result c = omega (arith, ap (λ f. number_of_field f) c.number.ensures, encoding_small c.self.inside.view c.self.invariant.of c.self.invariant.bytes)

pub returns : goal.returns
returns c =
    sym (encoding_told c.self.inside.view c.self.invariant.of c.args.self.now.root (ap (λ (a : Serialized). a.root) c.self.view_is) ∙ ap (λ f. number_of_field f) c.number.ensures)
