-- A written blob carries the tree that it was written for.
use Rattle.std.proofs.Common.{ℕ, ◌≡◌, ◌-◌, ◌<◌, ◌≤◌, ◌^◌, List, [], ◌++◌, length, replicate, refl, sym, ap, ◌∙◌, arith, length-append}
use Rattle.std.specs.Prelude.{All}
use Rattle.std.specs.Int.{w32, to_le_bytes}
use Rattle.std.proofs.lemmas.List.{append_assoc, append-nil}
use Rattle.std.proofs.lemmas.Nat.{from_le_bytes-to_le_bytes_4}
use Rattle.vx_flat.specs.Value.{Fields}
use Rattle.vx_flat.specs.Shows.{Shows}
use Rattle.vx_flat.specs.IsOf.{IsOf}
use Rattle.vx_flat.specs.Layout.{written_layout, shares}
use Rattle.vx_flat.proofs.LawsOfMessages.{shown-layout}
use Rattle.vx_buffer.specs.Buffer.{Buffer}
use Rattle.vx_trees.specs.Everywhere.{Everywhere}
use Rattle.vx_serde.specs.declared.options.SerializeOptions.{SerializeOptions}
use Rattle.vx_serialized.specs.ArraySchema.{array_schema}
use Rattle.vx_wire_tree.specs.Limits.{AreDescribable}
use Rattle.vx_serialized.specs.declared.message.Descriptor.{Descriptor}
use Rattle.vx_serialized.specs.Message.{message_of}
use Rattle.vx_serde.specs.MessageValue.{message_value}
use Rattle.vx_wire_tree.specs.Wire.{Wire, IsWhole, ids_in, buffers_in}
use Rattle.vx_serialized.specs.Blob.{IsBlob, buffers_at, end_of, wire_of, Carries, AreClean}
use Rattle.vx_serde.specs.Numbered.{numbered}
use Rattle.vx_serde.specs.Placing.{descriptors_from, data_from}
use Rattle.vx_serde.specs.Written.{message_bytes, message_pad, blob_bytes, IsWritable}
use Rattle.vx_serde.proofs.MessageRead.{message_of-message_value, message_value_is_of}
use Rattle.vx_serde.proofs.PlacedRead.{buffers_at-descriptors_from, end_of-descriptors_from, aligned-descriptors_from, plain-descriptors_from, described-descriptors_from}
use Rattle.vx_serde.proofs.NumberedRead.{IsPlacedNode, IsPlaced, IsTabledNode, placed_from_ids, numbered_fits, wire_of-numbered}

-- The layout of a value of array messages shows it.
pub shows-layout : (v : Fields) → IsOf array_schema v → length (written_layout array_schema v) < 2 ^ 31 → Shows array_schema (written_layout array_schema v) v
shows-layout v of short = shown-layout array_schema shares v refl of short

-- Data, its pad, a message and the message's length make a blob.
pub is_blob : (data_bytes zeros message : List ℕ) → length message ≤ 2 ^ 31 - 1
    → IsBlob (data_bytes ++ (zeros ++ (message ++ to_le_bytes w32 (length message)))) (data_bytes ++ zeros) message
is_blob data_bytes zeros message short = record {
  word = to_le_bytes w32 (length message);
  parts = sym (append_assoc (data_bytes ++ zeros) message (to_le_bytes w32 (length message)) ∙ append_assoc data_bytes zeros (message ++ to_le_bytes w32 (length message)));
  word_len = refl;
  message_len = sym (from_le_bytes-to_le_bytes_4 (length message) (omega (arith, short)));
}

-- The descriptors of a message's value, where they are those that it was made of.
module _ (options : SerializeOptions) (position : ℕ) (bs : List Buffer) (zeros : List ℕ) (ds : List Descriptor) (same : ds ≡ descriptors_from options position bs) where
  read_buffers : buffers_at (data_from options position bs ++ zeros) 0 ds ≡ bs
  read_buffers = ap (λ ds. buffers_at (data_from options position bs ++ zeros) 0 ds) same ∙ buffers_at-descriptors_from options position bs [] zeros 0 refl

  are_clean : AreDescribable bs → AreClean (data_from options position bs ++ zeros) ds
  are_clean fit =
      let within : end_of 0 (descriptors_from options position bs) ≤ length (data_from options position bs ++ zeros) =
      omega (arith, end_of-descriptors_from options position bs 0, length-append (data_from options position bs) zeros) in
      rw same (record { aligned = aligned-descriptors_from options position bs fit; plain = plain-descriptors_from options position bs; within = within })

read_wire : (ids : List (List ℕ)) (w : Wire) (bs : List Buffer) → bs ≡ buffers_in w → Everywhere (IsPlacedNode ids) w → w ≡ wire_of ids bs (numbered ids 0 w)
read_wire ids w bs e placed =
    sym (ap (λ bs. wire_of ids bs (numbered ids 0 w)) (e ∙ sym (append-nil (buffers_in w))) ∙ wire_of-numbered ids [] [] 0 w refl placed)

-- The message that is written for a tree shows its value.
pub message_shows : (ids : List (List ℕ)) (options : SerializeOptions) (w : Wire) → IsWhole w → Everywhere IsTabledNode w → All (IsPlaced ids) (ids_in w)
    → IsWritable ids options w → Shows array_schema (message_bytes ids options w) (message_value (numbered ids 0 w) (descriptors_from options options.offset (buffers_in w)))
message_shows ids options w clean tabled all fit =
    let root = numbered ids 0 w in
    let ds = descriptors_from options options.offset (buffers_in w) in
    shows-layout (message_value root ds) (message_value_is_of root ds (numbered_fits ids 0 w (omega (arith, fit.tree.few)) (placed_from_ids ids w clean all) tabled)) (omega (arith, fit.short))

-- What is written for a tree carries the tree, and its descriptors are in order.
pub carried : (ids : List (List ℕ)) (options : SerializeOptions) (w : Wire) → IsWhole w → Everywhere IsTabledNode w → All (IsPlaced ids) (ids_in w)
    → IsWritable ids options w → (c : Carries (blob_bytes ids options w) ids w) × AreClean c.segment (message_of c.value).descriptors
carried ids options w clean tabled all fit =
    let placed = placed_from_ids ids w clean all in
    let root = numbered ids 0 w in
    let bs = buffers_in w in
    let ds = descriptors_from options options.offset bs in
    let zeros : List ℕ = replicate (message_pad options w) 0 in
    let numbered = numbered_fits ids 0 w (omega (arith, fit.tree.few)) placed tabled in
    let told = message_of-message_value root ds numbered (described-descriptors_from options options.offset bs fit.tree.describable) in
    let same : (message_of (message_value root ds)).descriptors ≡ ds = ap (λ m. m.descriptors) told in
    let shows = message_shows ids options w clean tabled all fit in (
      record {
        segment = data_from options options.offset bs ++ zeros;
        message = message_bytes ids options w;
        value = message_value root ds;
        root = root;
        blob_is = is_blob (data_from options options.offset bs) zeros (message_bytes ids options w) fit.short;
        shows = shows;
        root_is = ap (λ m. m.root) told;
        wire_is = read_wire ids w (buffers_at (data_from options options.offset bs ++ zeros) 0 (message_of (message_value root ds)).descriptors) (read_buffers options options.offset bs zeros (message_of (message_value root ds)).descriptors same) placed;
      },
      are_clean options options.offset bs zeros (message_of (message_value root ds)).descriptors same fit.tree.describable,
    )
