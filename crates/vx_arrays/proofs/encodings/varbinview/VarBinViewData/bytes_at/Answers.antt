-- A row's bytes are those that its view tells.
use Rattle.std.proofs.Common.{◌∙◌, ap}
use Rattle.vx_buffer.specs.Buffer.{Buffer}
use Rattle.vx_array_tree.specs.Encodings.VarBinViews.{Data}
use Rattle.vx_arrays.proofs.Viewed.{row_view}
use Rattle.vx_arrays.proofs.encodings.varbinview.VarBinViewData.bytes_at.Goals as goal

pub returns : goal.returns
returns c =
    c.viewed.ensures ∙ row_view c.args.self.now c.args.index c.as_slice.result.now c.as_slice-views.result.now (c.as_slice.ensures.value ∙ ap (λ (x : Data). x.buffers) c.self.view_is)
    (c.as_slice-views.ensures ∙ ap (λ (b : Buffer). b.bytes) c.as_host.ensures ∙ ap (λ (x : Data). x.views.bytes) c.self.view_is)
