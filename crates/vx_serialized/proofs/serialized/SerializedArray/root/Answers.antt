use Rattle.std.proofs.Common.{ap, sym, ◌∙◌}
use Rattle.vx_flat.specs.Seen.{seen}
use Rattle.vx_serialized.specs.Message.{node_of}
use Rattle.vx_serialized.specs.Stored.{stored}
use Rattle.vx_serialized.proofs.StoredMessages.{stored_seen}
use Rattle.vx_serialized.proofs.serialized.SerializedArray.root.Goals as goal

pub returns : goal.returns
returns c =
    let a = c.self.inside in
    c.new.ensures
    ∙ (λ j. record { root = node_of (seen c.in-Some.root); descriptors = c.descriptors_in.ensures j; buffers = a.buffers })
    ∙ sym (stored_seen c.as_slice-message.result.now a.place a.weight c.view_at-view.result c.in-Some.root a.buffers c.view_at-view.ensures c.in-Some.ensures.part)
    ∙ ap (λ m. stored m a.place a.buffers) c.as_slice-message.ensures
    ∙ c.self.view_is
