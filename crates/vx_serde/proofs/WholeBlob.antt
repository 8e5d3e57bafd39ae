-- A blob whole: its message, its limits and its buffers.
use Rattle.std.specs.Prelude.{ℕ, ◌≡◌, ◌<◌, ◌≤◌, ◌+◌, ◌^◌, List, [], ◌∷◌, ◌++◌, length, replicate, refl}
use Rattle.std.specs.Int.{w32, to_le_bytes}
use Rattle.std.proofs.Common.{arith, sym, ◌∙◌, ap, subst, append-nil, length-append}
use Rattle.std.proofs.lemmas.List.{length-replicate}
use Rattle.vx_buffer.specs.Buffer.{Buffer}
use Rattle.vx_flat.specs.Limits.{KeepsLimits}
use Rattle.vx_flat.specs.Weight.{weight}
use Rattle.vx_trees.specs.Walks.{levels}
use Rattle.vx_array_tree.specs.Tree.{Tree}
use Rattle.vx_wire_tree.specs.Limits.{AreDescribable}
use Rattle.vx_serde.proofs.WiredNodes.{wired-levels}
use Rattle.vx_wire_tree.specs.Context.{Context}
use Rattle.vx_wire_tree.specs.Session.{SessionMeaning}
use Rattle.vx_serialized.specs.declared.error.WireError.{WireError}
use Rattle.vx_serialized.specs.declared.error.WireError.TheVariants.{OutOfMemory, NotPermitted, WireLimit}
use Rattle.vx_serde.specs.declared.options.SerializeOptions.{SerializeOptions}
use Rattle.vx_serialized.specs.ArraySchema.{array_schema}
use Rattle.vx_serde.specs.MessageValue.{descriptors_bytes}
use Rattle.vx_wire_tree.specs.Wire.{buffers_in, Wire}
use Rattle.vx_wire_tree.specs.Written.{wire}
use Rattle.vx_encodings.specs.Messages.{codec}
use Rattle.vx_serde.specs.Causes.{RefusesWriting}
use Rattle.vx_serde.specs.Spells.{ids_after}
use Rattle.vx_serde.specs.Limits.{message_limits, most_levels}
use Rattle.vx_serde.specs.Placing.{pad, descriptors_from, data_from, data_end}
use Rattle.vx_serde.specs.WritingSteps.{KeepsTreeLimits, IsLaidOut, RefusesBytes, RefusesLayout, layout_of}
use Rattle.vx_serde.specs.Written.{message_bytes, message_pad, blob_bytes, IsWritable}
use Rattle.vx_buffer.specs.Joined.{joined}
use Rattle.vx_serde.specs.WrittenBuffers.{unaligned, pad_buffers, data_buffers, greatest_exponent, written_buffers}
use Rattle.vx_serde.proofs.PlacedData.{joined-append, joined-pad, joined-data, length-data}

-- ---- the message

-- The message of a tree and of the bytes of its descriptors is the tree's.
pub message-is : (ids : List (List ℕ)) (o : SerializeOptions) (w : Wire) (ds : List ℕ) → ds ≡ descriptors_bytes (descriptors_from o o.offset (buffers_in w)) → layout_of ids w ds ≡ message_bytes ids o w
message-is ids o w ds r = ap (λ bs. layout_of ids w bs) r

-- ---- the blob's length

length-word : (n : ℕ) → length (to_le_bytes w32 n) ≡ 4
length-word n = refl

pub length-blob : (ids : List (List ℕ)) (o : SerializeOptions) (w : Wire)
    → o.offset + length (blob_bytes ids o w) ≡ data_end o o.offset (buffers_in w) + (message_pad o w + length (message_bytes ids o w) + 4)
length-blob ids o w =
    let front = data_from o o.offset (buffers_in w) in
    let message = message_bytes ids o w in
    let word = to_le_bytes w32 (length message) in
    omega (
      arith,
      length-data o o.offset (buffers_in w),
      length-append front (replicate (message_pad o w) 0 ++ (message ++ word)),
      length-append (replicate (message_pad o w) 0) (message ++ word),
      length-append message word,
      length-replicate {A = ℕ} (message_pad o w) 0,
      length-word (length message),
    )

-- ---- limits

pub writable-placeable : (ids : List (List ℕ)) (o : SerializeOptions) (w : Wire) → IsWritable ids o w → KeepsTreeLimits o w
writable-placeable ids o w h = record { tree = h.tree; ends = omega (arith, h.ends, length-blob ids o w) }

pub writable-is : (ids : List (List ℕ)) (o : SerializeOptions) (w : Wire) (last : ℕ) (ds message : List ℕ) → IsLaidOut o w ds last → message ≡ message_bytes ids o w
    → length message < 2 ^ 31 → KeepsLimits (message_limits o) (weight array_schema message) → last + (pad o 3 last + length message + 4) < 2 ^ 64 → IsWritable ids o w
writable-is ids o w last ds message p e short within_limits ends =
    let P : List ℕ → Type 0 = λ m. KeepsLimits (message_limits o) (weight array_schema m) in
    record {
      tree = p.placeable.tree;
      short = omega (arith, short, ap (λ m. length m) e);
      within_limits = subst P e within_limits;
      ends = omega (arith, ends, length-blob ids o w, p.last_is, ap (λ n. pad o 3 n) p.last_is, ap (λ m. length m) e);
    }

-- An array is laid out where its tree keeps the limits and its buffers' descriptors are these.
pub laid_out : (s : SessionMeaning) (t : Tree) (o : SerializeOptions) (bs : List Buffer) (descriptors : List ℕ) (last : ℕ) → bs ≡ buffers_in (wire codec s t) → levels t ≤ most_levels o → length bs ≤ 65535 → AreDescribable bs
    → descriptors ≡ descriptors_bytes (descriptors_from o o.offset bs) → last ≡ data_end o o.offset bs → last < 2 ^ 64 → IsLaidOut o (wire codec s t) descriptors last
laid_out s t o bs descriptors last same deep few all d e ends =
    let P : List Buffer → Type 0 = λ z. AreDescribable z in
    let Q : List Buffer → Type 0 = λ z. data_end o o.offset z < 2 ^ 64 in
    let ends_there : data_end o o.offset bs < 2 ^ 64 = omega (arith, ends, e) in
    record {
      placeable = record {
        tree = record { nested = omega (arith, deep, wired-levels s t); few = omega (arith, few, ap (λ z. length z) same); describable = subst P same all };
        ends = subst Q same ends_there;
      };
      descriptors_are = d ∙ ap (λ z. descriptors_bytes (descriptors_from o o.offset z)) same;
      last_is = e ∙ ap (λ z. data_end o o.offset z) same;
    }

-- ---- refusals

module _ (s : SessionMeaning) (t : Tree) (c : Context) (o : SerializeOptions) where
  w : Wire
  w = wire codec s t

  -- An array that is not laid out.
  pub unplaced : (e : WireError) → RefusesLayout s o t c e → RefusesWriting s t c o e
  unfolding w
  unplaced OutOfMemory h = tt
  unplaced WireLimit h = λ k. h (writable-placeable (ids_after s t c) o w k.writable)
  unplaced NotPermitted h = h
  unplaced _ h = absurd h

  -- An array whose message is not written.
  pub unwritten : (bytes message : List ℕ) (e : WireError) → bytes ≡ descriptors_bytes (descriptors_from o o.offset (buffers_in (wire codec s t)))
      → message ≡ layout_of (ids_after s t c) (wire codec s t) bytes → RefusesBytes (message_limits o) message e → RefusesWriting s t c o e
  unfolding w
  unwritten bytes message OutOfMemory p q h = tt
  unwritten bytes message WireLimit p q h = λ k.
      let same = q ∙ message-is (ids_after s t c) o w bytes p in
      let P : List ℕ → Type 0 = λ m. KeepsLimits (message_limits o) (weight array_schema m) in
      h (omega (arith, k.writable.short, ap (λ m. length m) same)) (subst P (sym same) k.writable.within_limits)
  unwritten bytes message _ p q h = absurd h

  -- A blob that would end past the positions of 64 bits.
  pub late : (last : ℕ) (bytes message : List ℕ) → IsLaidOut o (wire codec s t) bytes last → message ≡ layout_of (ids_after s t c) (wire codec s t) bytes
      → 2 ^ 64 ≤ last + (pad o 3 last + length message + 4) → RefusesWriting s t c o WireLimit
  unfolding w
  late last bytes message p e far = λ k.
      let same = e ∙ message-is (ids_after s t c) o w bytes p.descriptors_are in
      omega (arith, far, k.writable.ends, length-blob (ids_after s t c) o w, p.last_is, ap (λ n. pad o 3 n) p.last_is, ap (λ m. length m) same)

-- ---- buffers

pub buffers-are : (ids : List (List ℕ)) (o : SerializeOptions) (w : Wire) (last : ℕ) (ds message : List ℕ) (bs : List Buffer) (padding : ℕ) → IsLaidOut o w ds last → message ≡ message_bytes ids o w → bs ≡ buffers_in w → padding ≡ pad o 3 last
    → record { bytes = []; exponent = greatest_exponent 3 bs } ∷ (data_buffers o o.offset bs ++ (pad_buffers padding ++ (unaligned message ∷ unaligned (to_le_bytes w32 (length message)) ∷ []))) ≡ written_buffers ids o w
buffers-are ids o w last ds message bs padding p e f g =
    ap (λ cs. record { bytes = []; exponent = greatest_exponent 3 cs } ∷ (data_buffers o o.offset cs ++ (pad_buffers padding ++ (unaligned message ∷ unaligned (to_le_bytes w32 (length message)) ∷ [])))) f
    ∙ ap (λ n. record { bytes = []; exponent = greatest_exponent 3 (buffers_in w) } ∷ (data_buffers o o.offset (buffers_in w) ++ (pad_buffers n ++ (unaligned message ∷ unaligned (to_le_bytes w32 (length message)) ∷ [])))) (g ∙ ap (λ n. pad o 3 n) p.last_is)
    ∙ ap (λ m. record { bytes = []; exponent = greatest_exponent 3 (buffers_in w) } ∷ (data_buffers o o.offset (buffers_in w) ++ (pad_buffers (message_pad o w) ++ (unaligned m ∷ unaligned (to_le_bytes w32 (length m)) ∷ [])))) e

pub joined-written : (ids : List (List ℕ)) (o : SerializeOptions) (w : Wire) → joined (written_buffers ids o w) ≡ blob_bytes ids o w
joined-written ids o w =
    let message = message_bytes ids o w in
    let word = to_le_bytes w32 (length message) in
    let tail = unaligned message ∷ unaligned word ∷ [] in
    joined-append (data_buffers o o.offset (buffers_in w)) (pad_buffers (message_pad o w) ++ tail)
    ∙ ap (λ r. r ++ joined (pad_buffers (message_pad o w) ++ tail)) (joined-data o o.offset (buffers_in w))
    ∙ ap (λ r. data_from o o.offset (buffers_in w) ++ r) (joined-append (pad_buffers (message_pad o w)) tail)
    ∙ ap (λ r. data_from o o.offset (buffers_in w) ++ (r ++ joined tail)) (joined-pad (message_pad o w))
    ∙ ap (λ r. data_from o o.offset (buffers_in w) ++ (replicate (message_pad o w) 0 ++ (message ++ r))) (append-nil word)
