use Rattle.std.proofs.Common.{◌≡◌, length, ap, ◌∙◌, arith}
use Rattle.vx_flat.specs.declared.schema.FieldKind.TheVariants.{Tables}
use Rattle.vx_flat.proofs.LawsOfViews.{place-within, kind-of, vector-of, element-of}
use Rattle.vx_serialized.specs.ArraySchema.{array_schema}
use Rattle.bench_walk.proofs.walk.+walk_node.Goals as goal

pub walk_node-requires : goal.walk_node-requires
walk_node-requires t c =
    let v = c.args.node.now in
    let w = c.in-Some-vector_of.children in
    let below = c.in-Some-vector_of.ensures in
    let child = c.table.ensures in
    let same : length c.table.result.message.now ≡ length v.message.now = ap (λ m. length m.now) (child.below.message ∙ below.below.message) in
    let tables = vector-of array_schema v w 2 (Tables 1) c.requires.schema (kind-of array_schema 1 v c.requires 2) below.below below.kind in (
      omega (arith, place-within v, below.below.later, child.below.later, same, c.decreases),
      element-of array_schema 1 w c.table.result tables child.below child.kind,
    )
