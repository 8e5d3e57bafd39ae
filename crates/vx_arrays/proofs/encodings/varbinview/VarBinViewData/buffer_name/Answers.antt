-- The buffers that views name are named by their numbers, and the views stand last.
use Rattle.std.proofs.Common.{List, Some, ◌∙◌, ap, length, codes, arith}
use Rattle.vx_buffer.specs.Buffer.{Buffer}
use Rattle.vx_array_tree.specs.Encodings.VarBinViews.{Data}
use Rattle.vx_arrays.proofs.Viewed.{name_of_buffer, name_of_views, name_of_none}
use Rattle.vx_arrays.proofs.encodings.varbinview.VarBinViewData.buffer_name.Goals as goal

pub returns-then-index-count-clause-ok : goal.returns-then-index-count-clause-ok
returns-then-index-count-clause-ok c =
    name_of_none c.args.self.now (length c.as_slice-buffers.result.now) c.args.index (ap (λ (bs : List Buffer). length bs) c.as_slice-buffers.ensures.value ∙ ap (λ (x : Data). length x.buffers) c.self.view_is)
    (codes "views") c.if-index-count.true

pub returns-then-index-count-2-clause-ok : goal.returns-then-index-count-2-clause-ok
returns-then-index-count-2-clause-ok c =
    ap (λ x. Some x) c.in_ok-owned_text.ensures.ok
    ∙ name_of_views c.args.self.now (length c.as_slice-buffers.result.now) c.args.index (ap (λ (bs : List Buffer). length bs) c.as_slice-buffers.ensures.value ∙ ap (λ (x : Data). length x.buffers) c.self.view_is)
    (codes "views") c.if-index-count-2.true

pub returns-clause-ok : goal.returns-clause-ok
returns-clause-ok c =
    ap (λ x. Some x) (c.in_ok-owned_text-2.ensures.ok ∙ c.as_str.ensures.value ∙ c.in_ok-text.ensures.ok)
    ∙ name_of_buffer c.args.self.now (length c.as_slice-buffers.result.now) c.args.index (ap (λ (bs : List Buffer). length bs) c.as_slice-buffers.ensures.value ∙ ap (λ (x : Data). length x.buffers) c.self.view_is) (codes "views")
    (omega (arith, c.if-index-count.false, c.if-index-count-2.false))
