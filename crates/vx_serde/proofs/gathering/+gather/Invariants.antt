use Rattle.std.proofs.Common.{◌≡◌, ◌++◌, ◌∷◌, [], ℕ, List, Some}
use Rattle.vx_trees.specs.Walks.{nodes}
use Rattle.vx_wire_tree.specs.Context.{grown_by}
use Rattle.vx_wire_tree.specs.Session.{SessionMeaning}
use Rattle.vx_wire_tree.specs.Wire.{id_in, buffers_at_node}
use Rattle.vx_wire_tree.specs.Written.{writes_two}
use Rattle.vx_serde.specs.Numbered.{encoding_index}
use Rattle.vx_serde.proofs.WiredNodes.{gathered_first}
use Rattle.vx_serde.proofs.gathering.+gather.Given as goal

abbrev pub decreases-gather : goal.decreases-gather
decreases-gather l = nodes l.array.now

abbrev pub invariant-loop-i : goal.invariant-loop-i
invariant-loop-i l = record {
  buffers : (s : SessionMeaning) → l.found.buffers ≡ l.initial.found.buffers ++ gathered_first s (λ h. buffers_at_node h) l.children l.i;
  encodings : (s : SessionMeaning) (more : List (List ℕ)) → writes_two s ≡ l.two → l.found.encodings.items
      ≡ l.initial.found.encodings.items ++ gathered_first s (λ h. encoding_index h.id (l.ctx.ids ++ more) ∷ []) l.children l.i;
  grown : (s : SessionMeaning) → writes_two s ≡ l.two → grown_by (gathered_first s (λ h. id_in h) l.children l.i) l.initial.ctx ≡ Some l.ctx;
}
