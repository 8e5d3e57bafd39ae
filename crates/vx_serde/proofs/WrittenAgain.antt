-- The blob that is written for an array spells it again.
use Rattle.std.proofs.Common.{ℕ, ◌≡◌, List, Some, refl, sym, subst}
use Rattle.std.specs.Prelude.{All}
use Rattle.vx_trees.specs.Rose.{node, end, more, label}
use Rattle.vx_trees.specs.Everywhere.{EverywhereBelow}
use Rattle.vx_types.specs.Typ.{Typ}
use Rattle.vx_buffer.specs.Buffer.{Buffer}
use Rattle.vx_array_tree.specs.Table.{buffers_of}
use Rattle.vx_array_tree.specs.Tree.{Tree, Trees}
use Rattle.vx_wire_tree.specs.Codec.{Codec, IsLawful}
use Rattle.vx_wire_tree.specs.Context.{Context, grown}
use Rattle.vx_wire_tree.specs.ReadBack.{HasStorableStats, HasCountableMetadata, IsWritten}
use Rattle.vx_wire_tree.specs.Session.{SessionMeaning, IsShipped, IsPaired}
use Rattle.vx_wire_tree.specs.DecodesTo.{DecodesTo}
use Rattle.vx_wire_tree.specs.Wire.{IsWhole, IsWholeNode, buffers_in, ids_in}
use Rattle.vx_wire_tree.specs.Written.{written_id, wire, wires, canon}
use Rattle.vx_wire_tree.proofs.Laws.{told_again, matched_types, matched_written, matched_unread, returned}
use Rattle.vx_encodings.specs.Messages.{codec}
use Rattle.vx_serde.specs.declared.options.SerializeOptions.{SerializeOptions}
use Rattle.vx_serde.specs.Limits.{most_levels}
use Rattle.vx_serde.specs.Placing.{descriptors_from}
use Rattle.vx_buffer.specs.Joined.{joined}
use Rattle.vx_serde.proofs.OneArray.{spelled_once}
use Rattle.vx_serde.specs.Serializing.{IsSerialized, ReturnsWhole, IsSpelledAgain, IsReadAgain}
use Rattle.vx_serde.specs.Taking.{as_written}
use Rattle.vx_serde.specs.Written.{blob_bytes, message_bytes, IsWritable}
use Rattle.vx_serde.specs.Spells.{Spells, blob_of, ids_after, KeepsWriterLimits}
use Rattle.vx_serde.proofs.Carried.{carried, message_shows}
use Rattle.vx_serde.proofs.CountableMetadata.{countable_in}
use Rattle.vx_serde.proofs.GrownPlaced.{grown_by-placed}
use Rattle.vx_serde.proofs.NumberedRead.{IsPlaced}
use Rattle.vx_serde.proofs.WiredStats.{wire-tabled}
use Rattle.vx_serde.proofs.GrownIds.{grown_by-ids}

-- Nothing is missing in an array's wire tree.
mutual
  pub wire-whole : (c : Codec) (s : SessionMeaning) (t : Tree) → IsWhole (wire c s t)
  wire-whole c s (node h ts) = (record { id = written_id s h; id_is = refl; buffers = buffers_of h.body; buffers_are = refl }, wires-whole c s ts)

  wires-whole : (c : Codec) (s : SessionMeaning) (ts : Trees) → EverywhereBelow IsWholeNode (wires c s ts)
  wires-whole c s end = tt
  wires-whole c s (more t ts) = (wire-whole c s t, wires-whole c s ts)

-- The identifiers after an array are those of the context that is grown by it.
pub grown-ids : (s : SessionMeaning) (t : Tree) (old new : Context) → grown codec s old t ≡ Some new → new.ids ≡ ids_after s t old
grown-ids s t old new e = grown_by-ids (ids_in (wire codec s t)) old new e

-- A tree that is written, under a context that is grown by it.
module _ (s : SessionMeaning) (u : Tree) (old new : Context) (options : SerializeOptions) (grew : grown codec s old u ≡ Some new) (fit : KeepsWriterLimits s u old options) where
  own-ids : new.ids ≡ ids_after s u old
  own-ids = grown-ids s u old new grew

  placed : All (λ id. IsPlaced new.ids id) (ids_in (wire codec s u))
  placed = (grown_by-placed (ids_in (wire codec s u)) old new grew).placed

  writable : IsWritable new.ids options (wire codec s u)
  writable = subst (λ ids. IsWritable ids options (wire codec s u)) (sym own-ids) fit.writable

  -- The metadata of its nodes can be counted.
  pub written_countable : HasCountableMetadata codec u
  written_countable =
      let w = wire codec s u in
      countable_in new.ids s u options (message_bytes new.ids options w) (descriptors_from options options.offset (buffers_in w)) (message_shows new.ids options w (wire-whole codec s u) (wire-tabled s u) placed writable) writable.within_limits

  -- Its blob spells the array that its wire tree decodes to, with the identifiers of the grown context.
  pub told_spelled : (d : Typ) (n : ℕ) (t : Tree) → DecodesTo codec s (wire codec s u) d n t → Spells (blob_of s u old options) new.ids d n s t
  told_spelled d n t told =
      let w = wire codec s u in
      let c = carried new.ids options w (wire-whole codec s u) (wire-tabled s u) placed writable in
      let spelled : Spells (blob_bytes new.ids options w) new.ids d n s t = record { wire = w; carried = c.0; clean = c.1; told = told } in
      subst (λ ids. Spells (blob_bytes ids options w) new.ids d n s t) own-ids spelled

-- The blob that is written for an array that was read spells it with the identifiers of the grown context.
pub spelled_again : (s : SessionMeaning) → IsShipped s → IsLawful codec s → IsPaired s → (blob : List ℕ) (read : List (List ℕ)) (d : Typ) (n : ℕ) (t : Tree)
    (old new : Context) (options : SerializeOptions) → Spells blob read d n s t → HasStorableStats codec t → grown codec s old t ≡ Some new → KeepsWriterLimits s t old options
    → Spells (blob_of s t old options) new.ids d n s (canon codec s t)
spelled_again s ok law paired blob read d n t old new options x stored grew fit =
    let w = wire codec s t in
    let m = x.told.matched in
    let again =
    told_again codec s ok law paired t x.told.sound (matched_unread codec s ok law x.wire t m) (matched_written codec s ok law paired x.wire t m) fit.messages (written_countable s t old new options grew fit)
    (matched_types codec s ok x.wire t m) stored
    in
    let T : Typ → Type 0 = λ z. DecodesTo codec s w z (label t).len (canon codec s t) in
    let L : ℕ → Type 0 = λ z. DecodesTo codec s w d z (canon codec s t) in
    told_spelled s t old new options grew fit d n (canon codec s t) (subst L x.told.len (subst T x.told.dtype again))

-- What encodings and plugins write of an array that returns spells that array.
pub returned_again : (s : SessionMeaning) → IsLawful codec s → IsPaired s → (t : Tree) (old new : Context) (options : SerializeOptions) → ReturnsWhole s options t
    → grown codec s old (as_written s options t) ≡ Some new → KeepsWriterLimits s (as_written s options t) old options
    → Spells (blob_of s (as_written s options t) old options) new.ids (label t).dtype (label t).len s t
returned_again s law paired t old new options x grew fit =
    let u = as_written s options t in
    told_spelled s u old new options grew fit (label t).dtype (label t).len t
    (record {
      matched = returned codec s law paired (most_levels options) t x.own x.returns (written_countable s u old new options grew fit);
      dtype = refl;
      len = refl;
      sound = x.own.sound;
    })

-- So do the bytes that are serialized.
pub serialized_again : (s : SessionMeaning) → IsLawful codec s → IsPaired s → (t : Tree) (old new : Context) (options : SerializeOptions) (bs : List Buffer) → IsSerialized s t options old new bs → ReturnsWhole s options t → IsSpelledAgain s t new bs
serialized_again s law paired t old new options bs x r =
    let again = subst (λ z. Spells z new.ids (label t).dtype (label t).len s t) (sym x.blob.written) (returned_again s law paired t old new options r x.blob.grown_is x.blob.limits) in
    record { spelled = again; the_one = λ other y. spelled_once (joined bs) new.ids (label t).dtype (label t).len s other t law y again }

-- What shipped encodings write of a sound array spells what is read back of it, where each of its nodes is written, the
-- types in it are known, its statistics can be stored, and nothing reads its topmost foreign nodes.
pub read_back : (s : SessionMeaning) → IsShipped s → IsLawful codec s → IsPaired s → (t : Tree) (old new : Context) (options : SerializeOptions) → IsReadAgain s t → IsWritten s t → HasStorableStats codec t
    → grown codec s old t ≡ Some new → KeepsWriterLimits s t old options → Spells (blob_of s t old options) new.ids (label t).dtype (label t).len s (canon codec s t)
read_back s ok law paired t old new options x written stored grew fit =
    told_spelled s t old new options grew fit (label t).dtype (label t).len (canon codec s t)
    (told_again codec s ok law paired t x.sound x.unread written fit.messages (written_countable s t old new options grew fit) x.known stored)
