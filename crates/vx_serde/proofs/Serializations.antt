-- A tree that is written: its blob, its limits and its context.
use Rattle.std.proofs.Common.{ℕ, ◌≡◌, List, Some, sym, ap, ◌∙◌, subst}
use Rattle.vx_buffer.specs.Buffer.{Buffer}
use Rattle.vx_buffer.specs.Joined.{joined}
use Rattle.vx_array_tree.specs.Tree.{Tree}
use Rattle.vx_wire_tree.specs.Context.{Context, grown}
use Rattle.vx_wire_tree.specs.Limits.{HasMessages}
use Rattle.vx_wire_tree.specs.ReadBack.{HasStorableStats}
use Rattle.vx_wire_tree.specs.Session.{SessionMeaning}
use Rattle.vx_wire_tree.specs.Written.{wire}
use Rattle.vx_encodings.specs.Messages.{codec}
use Rattle.vx_serde.specs.declared.options.SerializeOptions.{SerializeOptions}
use Rattle.vx_serde.specs.Aligned.{IsAlignedBlob}
use Rattle.vx_serde.specs.Serializing.{IsWrittenBlob}
use Rattle.vx_serde.specs.Spells.{KeepsWriterLimits, blob_of, blob_buffers, ids_after}
use Rattle.vx_serde.specs.Written.{IsWritable}
use Rattle.vx_serde.specs.WrittenBuffers.{written_buffers}
use Rattle.vx_serde.proofs.AlignedBlob.{aligned_blob}
use Rattle.vx_serde.proofs.WholeBlob.{joined-written}
use Rattle.vx_serde.proofs.WrittenAgain.{grown-ids}

-- What was written with the identifiers of the grown context.
pub serialized : (s : SessionMeaning) (t : Tree) (o : SerializeOptions) (before after : Context) (bs : List Buffer) → grown codec s before t ≡ Some after → HasStorableStats codec t → HasMessages t
    → IsWritable after.ids o (wire codec s t) → bs ≡ written_buffers after.ids o (wire codec s t) → IsWrittenBlob s t o before after bs
serialized s t o before after bs grew stored messages fit b =
    let ids : after.ids ≡ ids_after s t before = grown-ids s t before after grew in
    let P : List (List ℕ) → Type 0 = λ z. IsWritable z o (wire codec s t) in
    let Q : List ℕ → Type 0 = λ z. IsAlignedBlob o.offset z in
    let limits : KeepsWriterLimits s t before o = record { messages = messages; writable = subst P ids fit } in
    let own : bs ≡ blob_buffers s t before o = b ∙ ap (λ z. written_buffers z o (wire codec s t)) ids in
    let bytes : joined bs ≡ blob_of s t before o = ap (λ z. joined z) own ∙ joined-written (ids_after s t before) o (wire codec s t) in
    record {
      written = bytes;
      buffers_are = own;
      storable = stored;
      limits = limits;
      aligned = λ padded. subst Q (sym bytes) (aligned_blob s t before after o grew limits padded);
      grown_is = grew;
    }
