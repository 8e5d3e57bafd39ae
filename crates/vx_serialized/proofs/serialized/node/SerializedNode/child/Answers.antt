use Rattle.std.proofs.Common.{ap, sym, ◌∙◌, Some, arith}
use Rattle.vx_flat.specs.Seen.{seen, count_seen}
use Rattle.vx_flat.proofs.LawsOfViews.{elements-count}
use Rattle.vx_serialized.specs.Serialized.{Serialized}
use Rattle.vx_serialized.proofs.SerializedNodes.{children-counted, none-counted, child-told}
use Rattle.vx_serialized.proofs.serialized.node.SerializedNode.child.Goals as goal

pub table-requires-clause-within : goal.table-requires-clause-within
table-requires-clause-within c =
    let w = c.in-Some.children in
    omega (
      arith,
      c.requires,
      children-counted c.self.inside.view c.self.invariant.of w c.in-Some.ensures.part c.in-Some.ensures.below c.in-Some.ensures.kind c.args.self.now.root (count_seen w)
          (ap (λ (a : Serialized). a.root) c.self.view_is) (elements-count w),
    )

pub unreachable-requires : goal.unreachable-requires
unreachable-requires c =
    omega (arith, c.requires, none-counted c.self.inside.view c.self.invariant.of c.args.self.now.root (ap (λ (a : Serialized). a.root) c.self.view_is) c.in-None.ensures.part)

pub returns : goal.returns
returns c = record {
  root =
      child-told c.self.inside.view c.self.invariant.of c.in-Some.children c.in-Some.ensures.part c.in-Some.ensures.below c.in-Some.ensures.kind c.args.self.now.root c.args.i (seen c.table.result)
      (ap (λ (a : Serialized). a.root) c.self.view_is) c.table.ensures.part
      ∙ ap (λ (a : Serialized). Some a.root) (sym c.new.ensures);
  descriptors = ap (λ (a : Serialized). a.descriptors) c.new.ensures ∙ ap (λ (a : Serialized). a.descriptors) c.self.view_is;
  buffers = ap (λ (a : Serialized). a.buffers) c.new.ensures ∙ ap (λ (a : Serialized). a.buffers) c.self.view_is;
}
