use Rattle.std.proofs.Common.{◌∙◌, ap, sym, refl, length}
use Rattle.std.specs.Prelude.{slice_get}
use Rattle.std.proofs.lemmas.List.{length-map}
use Rattle.vx_trees.specs.Rose.{label}
use Rattle.vx_types.specs.Seen.{typ}
use Rattle.vx_types.specs.declared.dtype.DType.{DType}
use Rattle.vx_serialized.proofs.DecodedNodes.{wire-buffers, wire-metadata, wire-count}
use Rattle.vx_serialized.proofs.decoding.head_of.Goals as goal

pub returns-clause-head : goal.returns-clause-head
returns-clause-head c = λ ids. record {
  dtype = ap (λ (d : DType). typ d) c.in-Ok-clone.ensures.ok;
  len = refl;
  metadata = c.in-Ok-copy_from.ensures.ok ∙ c.metadata.ensures ∙ sym (wire-metadata ids c.args.node.now);
  buffers = c.nbuffers.ensures ∙ sym (ap (λ bs. length bs) (wire-buffers ids c.args.node.now) ∙ length-map (label c.args.node.now.root).buffers (λ k. slice_get c.args.node.now.buffers k));
  children = c.nchildren.ensures ∙ sym (wire-count ids c.args.node.now);
}
