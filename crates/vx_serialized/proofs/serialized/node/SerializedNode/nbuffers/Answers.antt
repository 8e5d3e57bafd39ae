use Rattle.std.proofs.Common.{ap, sym, ◌∙◌, length}
use Rattle.vx_serialized.proofs.SerializedNodes.{length-indices_of}
use Rattle.vx_serialized.proofs.serialized.node.SerializedNode.nbuffers.Goals as goal

pub returns : goal.returns
returns c = sym (length-indices_of c.indices.result.now) ∙ ap (λ xs. length xs) c.indices.ensures
