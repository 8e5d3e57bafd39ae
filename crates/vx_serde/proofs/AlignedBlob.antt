-- A written blob's buffers begin at positions of their alignment.
use Rattle.std.proofs.Common.{ℕ, ◌≡◌, true, List, Some, ◌++◌, replicate, sym, ap, subst, arith}
use Rattle.std.specs.Prelude.{All}
use Rattle.vx_array_tree.specs.Tree.{Tree}
use Rattle.vx_wire_tree.specs.Context.{Context, grown}
use Rattle.vx_trees.specs.Everywhere.{Everywhere}
use Rattle.vx_wire_tree.specs.Session.{SessionMeaning}
use Rattle.vx_encodings.specs.Messages.{codec}
use Rattle.vx_serde.specs.declared.options.SerializeOptions.{SerializeOptions}
use Rattle.vx_serde.specs.Aligned.{AreAligned, IsAlignedBlob}
use Rattle.vx_serialized.specs.declared.message.Descriptor.{Descriptor}
use Rattle.vx_serialized.specs.Message.{message_of}
use Rattle.vx_serde.specs.MessageValue.{message_value}
use Rattle.vx_wire_tree.specs.Wire.{Wire, IsWhole, ids_in, buffers_in}
use Rattle.vx_serde.specs.Numbered.{numbered}
use Rattle.vx_serde.specs.Placing.{descriptors_from, data_from}
use Rattle.vx_serde.specs.Written.{message_bytes, message_pad, blob_bytes, IsWritable}
use Rattle.vx_wire_tree.specs.Written.{wire}
use Rattle.vx_serde.specs.Spells.{blob_of, KeepsWriterLimits}
use Rattle.vx_serde.proofs.Carried.{shows-layout, is_blob}
use Rattle.vx_serde.proofs.GrownPlaced.{grown_by-placed}
use Rattle.vx_serde.proofs.MessageRead.{message_of-message_value, message_value_is_of}
use Rattle.vx_serde.proofs.NumberedRead.{IsPlaced, IsTabledNode, placed_from_ids, numbered_fits}
use Rattle.vx_serde.proofs.PadsAlign.{descriptors-align}
use Rattle.vx_serde.proofs.PlacedRead.{described-descriptors_from}
use Rattle.vx_serde.proofs.WiredStats.{wire-tabled}
use Rattle.vx_serde.proofs.WrittenAgain.{wire-whole, grown-ids}

-- What is written for a wire tree, where its identifiers have their places.
aligned_bytes : (ids : List (List ℕ)) (options : SerializeOptions) (w : Wire) → IsWhole w → Everywhere IsTabledNode w → All (IsPlaced ids) (ids_in w)
    → IsWritable ids options w → options.include_padding ≡ true → IsAlignedBlob options.offset (blob_bytes ids options w)
aligned_bytes ids options w clean tabled all fit asked =
    let root = numbered ids 0 w in
    let bs = buffers_in w in
    let ds = descriptors_from options options.offset bs in
    let zeros : List ℕ = replicate (message_pad options w) 0 in
    let fits = numbered_fits ids 0 w (omega (arith, fit.tree.few)) (placed_from_ids ids w clean all) tabled in
    let told = message_of-message_value root ds fits (described-descriptors_from options options.offset bs fit.tree.describable) in
    let same : (message_of (message_value root ds)).descriptors ≡ ds = ap (λ m. m.descriptors) told in
    let P : List Descriptor → Type 0 = λ z. AreAligned options.offset z in
    record {
      segment = data_from options options.offset bs ++ zeros;
      message = message_bytes ids options w;
      value = message_value root ds;
      blob_is = is_blob (data_from options options.offset bs) zeros (message_bytes ids options w) fit.short;
      shows = shows-layout (message_value root ds) (message_value_is_of root ds fits) (omega (arith, fit.short));
      aligned = subst P (sym same) (descriptors-align options options.offset bs asked);
    }

-- What is written for an array under a context that takes its identifiers.
pub aligned_blob : (s : SessionMeaning) (t : Tree) (old new : Context) (options : SerializeOptions) → grown codec s old t ≡ Some new
    → KeepsWriterLimits s t old options → options.include_padding ≡ true → IsAlignedBlob options.offset (blob_of s t old options)
aligned_blob s t old new options grew fit asked =
    let w = wire codec s t in
    let same = grown-ids s t old new grew in
    let placed = grown_by-placed (ids_in w) old new grew in
    let W : List (List ℕ) → Type 0 = λ z. IsWritable z options w in
    let P : List (List ℕ) → Type 0 = λ z. IsAlignedBlob options.offset (blob_bytes z options w) in
    subst P same (aligned_bytes new.ids options w (wire-whole codec s t) (wire-tabled s t) placed.placed (subst W (sym same) fit.writable) asked)
