-- What is kept of a message that was verified, and why it is not.
use Rattle.std.proofs.Common.{ℕ, ◌≡◌, ◌+◌, ◌-◌, List, ◌++◌, Some, length, refl, sym, ap, ◌∙◌, subst, arith, append_assoc}
use Rattle.std.specs.Prelude.{slice_range, Result, Ok, Err, IfOk, IfErr}
use Rattle.std.proofs.Math.Seq.{take-append_seam, drop-append_seam}
use Rattle.vx_buffer.specs.Buffer.{Buffer}
use Rattle.vx_flat.specs.declared.error.FlatError.{FlatError}
use Rattle.vx_flat.specs.declared.error.FlatError.TheVariants as tables
use Rattle.vx_flat.specs.declared.viewing.View.{View}
use Rattle.vx_flat.specs.declared.limits.Limits.{Limits}
use Rattle.vx_flat.specs.Limits.{KeepsLimits}
use Rattle.vx_flat.specs.Reading.{table_shown}
use Rattle.vx_flat.specs.Seen.{seen, part_in, fields_or_none, IsViewAt, IsViewOf}
use Rattle.vx_flat.specs.Shows.{Shows, ShowsAt}
use Rattle.vx_flat.specs.Value.{Fields, table}
use Rattle.vx_flat.specs.Weight.{weight}
use Rattle.vx_flat.specs.declared.weight.Weight.{Weight}
use Rattle.vx_flat.proofs.LawsOfViews.{seen-of}
use Rattle.vx_trees.specs.Rose.{Rose}
use Rattle.vx_serialized.specs.declared.error.WireError.{WireError}
use Rattle.vx_serialized.specs.declared.error.WireError.TheVariants.{OutOfMemory, TooShort, BadTable, TableLimit, BadAlignment, Compressed, OutOfBounds, UnknownIndex, UnknownEncoding, BadMetadata, BadShape, BadContent, ForeignControl, BadStats, NotPermitted, WireLimit, NotRegistered, NotSerializable, UndeclaredId, PluginRefused}
use Rattle.vx_serialized.specs.ArraySchema.{array_schema}
use Rattle.vx_serialized.specs.Blob.{IsBlob, AreClean, buffers_at}
use Rattle.vx_serialized.specs.Message.{NodeFields, message_of, node_of, root_in}
use Rattle.vx_serialized.specs.Opening.{RefusesOpening}
use Rattle.vx_serialized.specs.Overrides.{Overrides, no_override, RefusesWith}
use Rattle.vx_serialized.specs.ReadingSteps.{message_refusal}
use Rattle.vx_serialized.specs.Serialized.{Serialized}
use Rattle.vx_serialized.specs.Stored.{IsStored, IsMessageOf, IsBlobOf, RefusesMessage, RefusesSegment, array_at, root_or_leaf, stored}
use Rattle.vx_serialized.proofs.OverriddenBuffers.{never-refused, aligned-any, plain-any, past-end}

-- ---- views of a message's array

pub view_sees : (m : List ℕ) (t : ℕ) (w : Weight) (v : View) → IsViewAt array_schema m t w v → seen v ≡ array_at m t
view_sees m t w v h = λ j. fields_or_none (table_shown (h.schema j) (h.message j) (h.place j) (h.table j))

pub view_of : (m : List ℕ) (t : ℕ) (w : Weight) (v : View) → IsViewAt array_schema m t w v → IsViewOf array_schema 0 v
view_of m t w v h = record { schema = h.schema; table = h.table }

module _ (v : View) (h : IsViewOf array_schema 0 v) where
  pub root_seen : (message_of (seen v)).root ≡ root_in (part_in v 0)
  root_seen = ap (λ vs. (message_of vs).root) (seen-of array_schema 0 v h)

  pub root_there : (w : View) → part_in v 0 ≡ table (seen w) → (message_of (seen v)).root ≡ Some (node_of (seen w))
  root_there w e = root_seen ∙ ap (λ f. root_in f) e

-- ---- what is kept

module _ (m : List ℕ) (t : ℕ) (w : Weight) (v : View) (h : IsViewAt array_schema m t w v) where
  pub is_stored : (root : Rose NodeFields) → (message_of (seen v)).root ≡ Some root → IsStored m t
  is_stored root e =
      let sees = view_sees m t w v h in
      let P : Fields → Type 0 = λ z. ShowsAt array_schema m t 0 z in
      record { shows = subst P sees h.shows; root = root; root_is = ap (λ z. (message_of z).root) (sym sees) ∙ e }

-- What is kept is what a view again sees.
pub stored_seen : (m : List ℕ) (t : ℕ) (w : Weight) (v r : View) (bs : List Buffer) → IsViewAt array_schema m t w v → part_in v 0 ≡ table (seen r)
    → stored m t bs ≡ record { root = node_of (seen r); descriptors = (message_of (seen v)).descriptors; buffers = bs }
stored_seen m t w v r bs h e =
    let sees = sym (view_sees m t w v h) in
    let root : root_or_leaf (message_of (array_at m t)).root ≡ node_of (seen r) = ap (λ z. root_or_leaf (message_of z).root) sees ∙ ap (λ o. root_or_leaf o) (root_there v (view_of m t w v h) r e) in
    let descriptors : (message_of (array_at m t)).descriptors ≡ (message_of (seen v)).descriptors = ap (λ z. (message_of z).descriptors) sees in
    λ j. record { root = root j; descriptors = descriptors j; buffers = bs }

-- ---- why a message is not kept

pub unread : (most : Limits) (m : List ℕ) (e : FlatError) → (e ≡ tables.BadTable → (v : Fields) → Shows array_schema m v → ⊥) → (e ≡ tables.TableLimit → KeepsLimits most (weight array_schema m) → ⊥) → (e ≡ tables.MessageTooLong → ⊥)
    → RefusesMessage most (message_refusal e) m
unread most m tables.OutOfMemory bad over_limits long = tt
unread most m tables.BadTable bad over_limits long = λ v r shows root. bad refl v shows
unread most m tables.TableLimit bad over_limits long = over_limits refl
unread most m tables.MessageTooLong bad over_limits long = absurd (long refl)

pub refused_message : (most : Limits) (e : WireError) (given : Overrides) (segment m : List ℕ) → RefusesMessage most e m → RefusesSegment most e given segment m
refused_message most OutOfMemory given segment m r = tt
refused_message most BadTable given segment m r = r
refused_message most TableLimit given segment m r = r
refused_message most _ given segment m r = absurd r

pub refused_descriptors : (most : Limits) (e : WireError) (given : Overrides) (segment m : List ℕ) (value : Fields) → Shows array_schema m value → RefusesWith e given segment (message_of value).descriptors → RefusesSegment most e given segment m
refused_descriptors most OutOfMemory given segment m value shows r = tt
refused_descriptors most BadAlignment given segment m value shows r = record { value = value; shows = shows; refused = r }
refused_descriptors most Compressed given segment m value shows r = record { value = value; shows = shows; refused = r }
refused_descriptors most OutOfBounds given segment m value shows r = record { value = value; shows = shows; refused = r }
refused_descriptors most TooShort given segment m value shows r = absurd (never-refused TooShort given (λ g n p d x. x) (length segment) 0 0 (message_of value).descriptors r)
refused_descriptors most BadTable given segment m value shows r = absurd (never-refused BadTable given (λ g n p d x. x) (length segment) 0 0 (message_of value).descriptors r)
refused_descriptors most TableLimit given segment m value shows r = absurd (never-refused TableLimit given (λ g n p d x. x) (length segment) 0 0 (message_of value).descriptors r)
refused_descriptors most UnknownIndex given segment m value shows r = absurd (never-refused UnknownIndex given (λ g n p d x. x) (length segment) 0 0 (message_of value).descriptors r)
refused_descriptors most UnknownEncoding given segment m value shows r = absurd (never-refused UnknownEncoding given (λ g n p d x. x) (length segment) 0 0 (message_of value).descriptors r)
refused_descriptors most NotSerializable given segment m value shows r = absurd (never-refused NotSerializable given (λ g n p d x. x) (length segment) 0 0 (message_of value).descriptors r)
refused_descriptors most UndeclaredId given segment m value shows r = absurd (never-refused UndeclaredId given (λ g n p d x. x) (length segment) 0 0 (message_of value).descriptors r)
refused_descriptors most PluginRefused given segment m value shows r = absurd (never-refused PluginRefused given (λ g n p d x. x) (length segment) 0 0 (message_of value).descriptors r)
refused_descriptors most BadMetadata given segment m value shows r = absurd (never-refused BadMetadata given (λ g n p d x. x) (length segment) 0 0 (message_of value).descriptors r)
refused_descriptors most BadShape given segment m value shows r = absurd (never-refused BadShape given (λ g n p d x. x) (length segment) 0 0 (message_of value).descriptors r)
refused_descriptors most BadContent given segment m value shows r = absurd (never-refused BadContent given (λ g n p d x. x) (length segment) 0 0 (message_of value).descriptors r)
refused_descriptors most ForeignControl given segment m value shows r = absurd (never-refused ForeignControl given (λ g n p d x. x) (length segment) 0 0 (message_of value).descriptors r)
refused_descriptors most BadStats given segment m value shows r = absurd (never-refused BadStats given (λ g n p d x. x) (length segment) 0 0 (message_of value).descriptors r)
refused_descriptors most NotPermitted given segment m value shows r = absurd (never-refused NotPermitted given (λ g n p d x. x) (length segment) 0 0 (message_of value).descriptors r)
refused_descriptors most WireLimit given segment m value shows r = absurd (never-refused WireLimit given (λ g n p d x. x) (length segment) 0 0 (message_of value).descriptors r)
refused_descriptors most NotRegistered given segment m value shows r = absurd (never-refused NotRegistered given (λ g n p d x. x) (length segment) 0 0 (message_of value).descriptors r)

-- ---- blobs

-- The segment is the blob's front, and the message stands after it.
module _ (blob segment message : List ℕ) (is : IsBlob blob segment message) where
  pub segment_is : slice_range blob 0 (length segment) ≡ segment
  segment_is = ap (λ z. slice_range z 0 (length segment)) (is.parts ∙ append_assoc segment message is.word) ∙ front segment (message ++ is.word)
    where
      front : (xs ys : List ℕ) → slice_range (xs ++ ys) 0 (length xs) ≡ xs
      front xs ys = let whole : length xs - 0 ≡ length xs = omega arith in rw whole (take-append_seam xs ys)

  pub message_is : slice_range blob (length segment) (length segment + length message) ≡ message
  message_is = ap (λ z. slice_range z (length segment) (length segment + length message)) (is.parts ∙ append_assoc segment message is.word) ∙ middle segment message is.word
    where
      middle : (xs ys zs : List ℕ) → slice_range (xs ++ (ys ++ zs)) (length xs) (length xs + length ys) ≡ ys
      middle xs ys zs =
          let whole : (length xs + length ys) - length xs ≡ length ys = omega arith in
          rw (whole, drop-append_seam xs (ys ++ zs)) (take-append_seam ys zs)

  pub blob_refused : (most : Limits) (e : WireError) → RefusesSegment most e no_override segment message → RefusesOpening most e blob
  blob_refused most OutOfMemory r = tt
  blob_refused most BadTable r = record { segment = segment; message = message; blob_is = is; none = r }
  blob_refused most TableLimit r = record { segment = segment; message = message; blob_is = is; over_limits = r }
  blob_refused most BadAlignment r = record { segment = segment; message = message; value = r.value; blob_is = is; shows = r.shows; refused = aligned-any (length segment) 0 0 (message_of r.value).descriptors r.refused }
  blob_refused most Compressed r = record { segment = segment; message = message; value = r.value; blob_is = is; shows = r.shows; refused = plain-any (length segment) 0 0 (message_of r.value).descriptors r.refused }
  blob_refused most OutOfBounds r = record { segment = segment; message = message; value = r.value; blob_is = is; shows = r.shows; refused = past-end (length segment) 0 0 (message_of r.value).descriptors r.refused }
  blob_refused most _ r = absurd r

  pub is_blob_of : (most : Limits) (r : Result Serialized WireError) → IfOk r (IsMessageOf most message) → IfOk r (λ a. a.buffers ≡ buffers_at segment 0 a.descriptors) → IfOk r (λ a. AreClean segment a.descriptors)
      → IfOk r (IsBlobOf most blob)
  is_blob_of most (Ok a) told buffers clean = record { segment = segment; message = message; blob_is = is; message_is = told; buffers = buffers; clean = clean }
  is_blob_of most (Err e) told buffers clean = tt

  pub blob_cause : (most : Limits) (r : Result Serialized WireError) → IfErr r (λ e. RefusesSegment most e no_override segment message) → IfErr r (λ e. RefusesOpening most e blob)
  blob_cause most (Ok a) cause = tt
  blob_cause most (Err e) cause = blob_refused most e cause
