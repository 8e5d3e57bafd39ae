-- The limits on reading, more identifiers, and the causes of a blob at a type and a length, for the proofs of other
-- crates.
use Rattle.std.proofs.Common.{ℕ, zero, suc, ◌≡◌, List, [], ◌∷◌, ◌++◌, Some, map, refl, sym, ap, ◌∙◌, subst, inl, inr}
use Rattle.std.specs.Prelude.{slice_get}
use Rattle.vx_buffer.specs.Buffer.{Buffer}
use Rattle.vx_flat.specs.Weight.{weight}
use Rattle.vx_flat.specs.declared.limits.Limits.{Limits}
use Rattle.vx_flat.specs.Limits.{KeepsLimits}
use Rattle.vx_trees.specs.Rose.{Rose, Roses, node, end, more}
use Rattle.vx_trees.specs.Everywhere.{EverywhereBelow}
use Rattle.vx_types.specs.Typ.{Typ}
use Rattle.vx_wire_tree.specs.Session.{SessionMeaning}
use Rattle.vx_wire_tree.specs.Wire.{Wire, IsWhole, IsWholeNode}
use Rattle.vx_serialized.specs.declared.error.WireError.{WireError}
use Rattle.vx_serialized.specs.declared.error.WireError.TheVariants.{OutOfMemory, TooShort, BadTable, TableLimit, BadAlignment, Compressed, OutOfBounds, UnknownIndex, UnknownEncoding, BadMetadata, BadShape, BadContent, ForeignControl, BadStats, PluginRefused}
use Rattle.vx_serialized.specs.ArraySchema.{array_schema}
use Rattle.vx_serialized.specs.Blob.{Carries, wire_of, wires_of, buffers_at}
use Rattle.vx_serialized.specs.Carried.{IsWithinLimits, RefusesCarried, RefusesBlob}
use Rattle.vx_serialized.specs.Causes.{RefusesWire}
use Rattle.vx_serialized.specs.Message.{NodeFields, message_of}
use Rattle.vx_serialized.specs.Opening.{RefusesOpening}
use Rattle.vx_serialized.specs.Serialized.{Serialized}
use Rattle.vx_serialized.specs.Stored.{IsBlobOf}
use Rattle.vx_serialized.proofs.LawsOfBlobs.{one_blob}

-- ---- limits

-- A blob that was opened keeps the limits on reading.
pub reader_limits : (most : Limits) (blob : List ℕ) (a : Serialized) → IsBlobOf most blob a → IsWithinLimits most blob
reader_limits most blob a h = record {
  within_limits = λ segment message is.
      let P : List ℕ → Type 0 = λ m. KeepsLimits most (weight array_schema m) in
      subst P (one_blob blob h.segment segment h.message message h.blob_is is).1 h.message_is.within_limits;
}

-- ---- identifiers

-- What stands at an index stands there where more follows.
found_longer : {A : Type 0} (xs ys : List A) (i : ℕ) (x : A) → slice_get xs i ≡ Some x → slice_get (xs ++ ys) i ≡ Some x
found_longer [] ys i x e = absurd (cc)
found_longer (z ∷ xs) ys zero x e = e
found_longer (z ∷ xs) ys (suc i) x e = found_longer xs ys i x e

mutual
  wire_longer : (ids others : List (List ℕ)) (bs : List Buffer) (t : Rose NodeFields) → IsWhole (wire_of ids bs t) → wire_of ids bs t ≡ wire_of (ids ++ others) bs t
  wire_longer ids others bs (node f ts) h =
      let same : slice_get ids f.encoding ≡ slice_get (ids ++ others) f.encoding = h.0.id_is ∙ sym (found_longer ids others f.encoding h.0.id h.0.id_is) in
      ap (λ o. node (record { id = o; metadata = f.metadata; buffers = map (λ i. slice_get bs i) f.buffers; stats = f.stats }) (wires_of ids bs ts)) same
      ∙ ap (λ ws. node (record { id = slice_get (ids ++ others) f.encoding; metadata = f.metadata; buffers = map (λ i. slice_get bs i) f.buffers; stats = f.stats }) ws) (wires_longer ids others bs ts h.1)

  wires_longer : (ids others : List (List ℕ)) (bs : List Buffer) (ts : Roses NodeFields) → EverywhereBelow IsWholeNode (wires_of ids bs ts) → wires_of ids bs ts ≡ wires_of (ids ++ others) bs ts
  wires_longer ids others bs end h = refl
  wires_longer ids others bs (more t ts) h =
      ap (λ w. more w (wires_of ids bs ts)) (wire_longer ids others bs t h.0) ∙ ap (λ ws. more (wire_of (ids ++ others) bs t) ws) (wires_longer ids others bs ts h.1)

-- A blob carries the same wire tree where more identifiers come after its own.
pub carried_longer : (blob : List ℕ) (ids others : List (List ℕ)) (w : Wire) → IsWhole w → Carries blob ids w → Carries blob (ids ++ others) w
carried_longer blob ids others w whole x = record {
  segment = x.segment;
  message = x.message;
  value = x.value;
  root = x.root;
  blob_is = x.blob_is;
  shows = x.shows;
  root_is = x.root_is;
  wire_is = x.wire_is ∙ wire_longer ids others (buffers_at x.segment 0 (message_of x.value).descriptors) x.root (subst IsWhole x.wire_is whole);
}

-- ---- causes

module _ (most : Limits) (s : SessionMeaning) (blob : List ℕ) (ids : List (List ℕ)) (d : Typ) (n : ℕ) where
  -- A blob that is not opened is not read.
  pub unopened : (e : WireError) → RefusesOpening most e blob → RefusesBlob most s e blob ids d n
  unopened OutOfMemory h = tt
  unopened TooShort h = h
  unopened BadTable h = h
  unopened TableLimit h = h
  unopened BadAlignment h = h
  unopened Compressed h = h
  unopened OutOfBounds h = inl h
  unopened _ h = absurd h

  -- A blob of which the wire tree is refused is not read.
  pub undecoded : (e : WireError) (w : Wire) → Carries blob ids w → RefusesWire s e w d n → RefusesBlob most s e blob ids d n
  undecoded OutOfMemory w carried h = tt
  undecoded OutOfBounds w carried h = inr (record { wire = w; carried = carried; cause = h })
  undecoded UnknownIndex w carried h = record { wire = w; carried = carried; cause = h }
  undecoded UnknownEncoding w carried h = record { wire = w; carried = carried; cause = h }
  undecoded BadMetadata w carried h = record { wire = w; carried = carried; cause = h }
  undecoded BadShape w carried h = record { wire = w; carried = carried; cause = h }
  undecoded BadContent w carried h = record { wire = w; carried = carried; cause = h }
  undecoded ForeignControl w carried h = record { wire = w; carried = carried; cause = h }
  undecoded BadStats w carried h = record { wire = w; carried = carried; cause = h }
  undecoded PluginRefused w carried h = record { wire = w; carried = carried; cause = h }
  undecoded _ w carried h = absurd h
