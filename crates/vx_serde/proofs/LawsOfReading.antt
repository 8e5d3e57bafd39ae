-- What follows of a blob that is read, for the proofs of other crates.
use Rattle.std.proofs.Common.{ℕ, ◌≡◌, ◌⊎◌, inl, inr, List, ◌++◌, subst}
use Rattle.vx_flat.specs.Value.{Fields}
use Rattle.vx_flat.specs.Shows.{Shows}
use Rattle.vx_flat.proofs.LawsOfMessages.{shown-one}
use Rattle.vx_flat.specs.declared.limits.Limits.{Limits}
use Rattle.vx_types.specs.Typ.{Typ}
use Rattle.vx_array_tree.specs.Tree.{Tree}
use Rattle.vx_wire_tree.specs.Context.{Context}
use Rattle.vx_wire_tree.specs.Codec.{IsLawful}
use Rattle.vx_wire_tree.specs.Session.{SessionMeaning}
use Rattle.vx_wire_tree.specs.Wire.{Wire, IsWhole}
use Rattle.vx_wire_tree.specs.Written.{wire}
use Rattle.vx_wire_tree.proofs.Laws.{matched_whole}
use Rattle.vx_encodings.specs.Messages.{codec}
use Rattle.vx_serde.specs.Recoding.{KeepsOfSpelled, LeavesContext}
use Rattle.vx_serde.specs.Request.{Request, IsSpelled}
use Rattle.vx_serde.specs.Spells.{Spells, KeepsReaderLimits, KeepsWriterLimits, ids_after, blob_of}
use Rattle.vx_serde.specs.declared.options.SerializeOptions.{SerializeOptions}
use Rattle.vx_serialized.specs.ArraySchema.{array_schema}
use Rattle.vx_serialized.specs.Blob.{Carries, AreClean}
use Rattle.vx_serialized.specs.Message.{message_of}
use Rattle.vx_serialized.specs.Carried.{IsWithinLimits, RefusesBlob}
use Rattle.vx_serialized.specs.declared.error.WireError.{WireError}
use Rattle.vx_serialized.specs.declared.error.WireError.TheVariants.{OutOfMemory}
use Rattle.vx_serialized.proofs.LawsOfBlobs.{one_blob}
use Rattle.vx_serialized.proofs.LawsOfRefusals.{carried_longer}
use Rattle.vx_serde.proofs.NeverCaused.{never_refused as never_caused}
use Rattle.vx_serde.proofs.OneArray.{spelled_once as once}
use Rattle.vx_serde.proofs.Readable.{written_readable}

-- Nothing is missing from the wire tree of a blob that spells an array.
pub spelled_whole : (blob : List ℕ) (ids : List (List ℕ)) (d : Typ) (n : ℕ) (s : SessionMeaning) (t : Tree) (x : Spells blob ids d n s t) → IsWhole x.wire
spelled_whole blob ids d n s t x = matched_whole codec s x.wire t x.told.matched

-- The descriptors of a blob are clean whatever identifiers it is read with.
clean_with : (blob : List ℕ) (ids others : List (List ℕ)) (w : Wire) (x : Carries blob ids w) (y : Carries blob others w)
    → AreClean x.segment (message_of x.value).descriptors → AreClean y.segment (message_of y.value).descriptors
clean_with blob ids others w x y clean =
    let parts = one_blob blob x.segment y.segment x.message y.message x.blob_is y.blob_is in
    let P : List ℕ → Type 0 = λ m. Shows array_schema m x.value in
    let value : x.value ≡ y.value = shown-one array_schema y.message x.value y.value (subst P parts.1 x.shows) y.shows in
    let A : List ℕ → Type 0 = λ z. AreClean z (message_of x.value).descriptors in
    let B : Fields → Type 0 = λ v. AreClean y.segment (message_of v).descriptors in
    subst B value (subst A parts.0 clean)

-- A blob spells the same array where more identifiers come after its own.
pub spelled_longer : (blob : List ℕ) (ids others : List (List ℕ)) (d : Typ) (n : ℕ) (s : SessionMeaning) (t : Tree) → Spells blob ids d n s t → Spells blob (ids ++ others) d n s t
spelled_longer blob ids others d n s t x =
    let longer = carried_longer blob ids others x.wire (spelled_whole blob ids d n s t x) x.carried in
    record { wire = x.wire; carried = longer; clean = clean_with blob ids (ids ++ others) x.wire x.carried longer x.clean; told = x.told }

-- A blob spells at most one array at a type and a length.
pub spelled_once : (s : SessionMeaning) → IsLawful codec s → (blob : List ℕ) (ids : List (List ℕ)) (d : Typ) (n : ℕ) (t u : Tree) → Spells blob ids d n s t → Spells blob ids d n s u → t ≡ u
spelled_once s law blob ids d n t u x y = once blob ids d n s t u law x y

-- A blob that spells an array within the limits on reading has no cause of a refusal but allocation failure.
pub never_refused : (most : Limits) (s : SessionMeaning) → IsLawful codec s → (blob : List ℕ) (ids : List (List ℕ)) (d : Typ) (n : ℕ) (t : Tree) → Spells blob ids d n s t → IsWithinLimits most blob → (e : WireError)
    → RefusesBlob most s e blob ids d n → e ≡ OutOfMemory
never_refused most s law blob ids d n t spelled within e cause = never_caused most s law blob ids d n t spelled within e cause

-- The blob that is written for an array within the limits on writing keeps the limits on reading.
pub written_within_limits : (s : SessionMeaning) (t : Tree) (context : Context) (options : SerializeOptions) → KeepsWriterLimits s t context options → KeepsReaderLimits options (blob_of s t context options)
written_within_limits s t context options keeps = written_readable (ids_after s t context) options (wire codec s t) keeps.writable

untouched_by : (asked : Request) (after : Context) → (after ≡ asked.context) ⊎ KeepsOfSpelled asked after → ((array : Tree) → IsSpelled asked array → ⊥) → after ≡ asked.context
untouched_by asked after (inl e) none = e
untouched_by asked after (inr k) none = absurd (none k.array k.spelled)

-- Where a blob spells no array, nothing comes to the context.
pub untouched : (asked : Request) (after : Context) → LeavesContext asked after → ((array : Tree) → IsSpelled asked array → ⊥) → after ≡ asked.context
untouched asked after x none = untouched_by asked after x.some none
