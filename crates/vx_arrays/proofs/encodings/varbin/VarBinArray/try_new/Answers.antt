-- What is judged of the offsets and of what may stand after them is judged of the children.
use Rattle.std.proofs.Common.{◌∙◌, ◌∷◌, Bool, IsTrue, refl, subst, sym}
use Rattle.std.proofs.lemmas.Bool.{false≢true}
use Rattle.std.specs.Prelude.{◌↔◌}
use Rattle.vx_trees.specs.Rose.{more, roses_of}
use Rattle.vx_types.specs.Seen.{typ}
use Rattle.vx_array_tree.specs.Encodings.VarBins.{Content}
use Rattle.vx_array_tree.specs.Tree.{option_trees, rows_below, rows_of}
use Rattle.vx_arrays.specs.VarBins.{varbin_head}
use Rattle.vx_arrays.proofs.Over.{content_over, shaped_over}
use Rattle.vx_arrays.proofs.encodings.varbin.VarBinArray.try_new.Goals as goal
use Rattle.vx_arrays.proofs.encodings.varbin.VarBinArray.try_new.Goals.{then-shaped, else-shaped}

pub is_right-right-requires : goal.is_right-right-requires
is_right-right-requires c = (c.are_parts-shaped.ensures.shaped c.args.bytes).0 c.if-shaped.true

pub over_children-requires-clause-shaped : goal.over_children-requires-clause-shaped
over_children-requires-clause-shaped c =
    shaped_over (varbin_head (typ c.args.dtype) c.saturating_sub-len.result c.args.bytes) (varbin_head (typ c.args.dtype) c.saturating_sub-len.result c.args.bytes) (roses_of c.in-Ok.children.items) (more c.args.offsets (option_trees c.args.validity))
    refl c.in-Ok.ensures.children c.are_parts-shaped.result (c.are_parts-shaped.ensures.shaped c.args.bytes)

pub over_children-requires-clause-content : goal.over_children-requires-clause-content
over_children-requires-clause-content c =
    content_over (varbin_head (typ c.args.dtype) c.saturating_sub-len.result c.args.bytes) (varbin_head (typ c.args.dtype) c.saturating_sub-len.result c.args.bytes) (roses_of c.in-Ok.children.items) (more c.args.offsets (option_trees c.args.validity))
    refl c.in-Ok.ensures.children c.are_parts-shaped.result c.if-shaped.right
    (elim c.if-shaped.branch [
      | then-shaped w ↦
          λ s k.
          subst (λ (b : Bool). IsTrue b ↔ Content (typ c.args.dtype) c.saturating_sub-len.result (record { bytes = c.args.bytes }) (rows_of c.args.offsets ∷ rows_below (option_trees c.args.validity)))
          (sym w.right-is) (w.is_right-right.ensures k)
      | else-shaped w ↦ λ s. absurd (false≢true (sym w.if-shaped.false ∙ s))
    ])
