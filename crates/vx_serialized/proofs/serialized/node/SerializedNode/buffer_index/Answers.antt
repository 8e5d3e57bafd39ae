use Rattle.std.proofs.Common.{ap, sym, ◌∙◌, Some, arith}
use Rattle.std.specs.Prelude.{slice_get}
use Rattle.vx_serialized.proofs.SerializedNodes.{index-within, indices_of-at}
use Rattle.vx_serialized.proofs.serialized.node.SerializedNode.buffer_index.Goals as goal

pub overflow_mul-i : goal.overflow_mul-i
overflow_mul-i c = omega (arith, index-within c.indices-indices.result.now _ c.args.i c.indices-indices.ensures c.requires, c.indices-indices.type_inv)

pub bounds-indices-i : goal.bounds-indices-i
bounds-indices-i c = omega (arith, index-within c.indices-indices.result.now _ c.args.i c.indices-indices.ensures c.requires)

pub overflow_mul-i-2 : goal.overflow_mul-i-2
overflow_mul-i-2 c = omega (arith, index-within c.indices-indices.result.now _ c.args.i c.indices-indices.ensures c.requires, c.indices-indices.type_inv)

pub overflow_add-i : goal.overflow_add-i
overflow_add-i c = omega (arith, index-within c.indices-indices.result.now _ c.args.i c.indices-indices.ensures c.requires, c.indices-indices.type_inv)

pub bounds-indices-i-2 : goal.bounds-indices-i-2
bounds-indices-i-2 c = index-within c.indices-indices.result.now _ c.args.i c.indices-indices.ensures c.requires

pub returns : goal.returns
returns c =
    sym (ap (λ xs. slice_get xs c.args.i) c.indices-indices.ensures)
    ∙ indices_of-at c.indices-indices.result.now c.args.i (index-within c.indices-indices.result.now _ c.args.i c.indices-indices.ensures c.requires)
    ∙ ap (λ z. Some z) (sym c.from_le_bytes.ensures)
