-- A blob carries at most one tree, which is that of its array, for the proofs of other crates.
use Rattle.std.proofs.Common.{ℕ, ◌≡◌, List, ◌++◌, length, take, drop, sym, ap, ◌∙◌, subst, arith, length-append}
use Rattle.std.specs.Int.{w32, from_le_bytes}
use Rattle.std.proofs.Math.Seq.{take-append_seam, drop-append_seam}
use Rattle.std.proofs.lemmas.Option.{same_Some}
use Rattle.vx_flat.specs.Shows.{Shows}
use Rattle.vx_flat.proofs.LawsOfMessages.{shown-one}
use Rattle.vx_serialized.specs.ArraySchema.{array_schema}
use Rattle.vx_flat.specs.declared.limits.Limits.{Limits}
use Rattle.vx_serialized.specs.Message.{Descriptor, message_of}
use Rattle.vx_wire_tree.specs.Wire.{Wire}
use Rattle.vx_serialized.specs.Blob.{IsBlob, AreClean, buffers_at, wire_of, Carries}
use Rattle.vx_serialized.specs.ReadingSteps.{IsOpened}
use Rattle.vx_serialized.specs.Serialized.{Serialized, wire_in}
use Rattle.vx_serialized.specs.Stored.{IsBlobOf}

-- Two equal lists that are cut at the same distance from their end have equal parts.
fronts : (a b c d : List ℕ) → a ++ b ≡ c ++ d → length b ≡ length d → a ≡ c
fronts a b c d e h =
    let n : length a ≡ length c = omega (arith, ap length e, length-append a b, length-append c d, h) in
    sym (take-append_seam a b) ∙ ap (λ s. take (length a) s) e ∙ ap (λ n. take n (c ++ d)) n ∙ take-append_seam c d

pub backs : (a b c d : List ℕ) → a ++ b ≡ c ++ d → length b ≡ length d → b ≡ d
backs a b c d e h =
    let n : length a ≡ length c = omega (arith, ap length e, length-append a b, length-append c d, h) in
    sym (drop-append_seam a b) ∙ ap (λ s. drop (length a) s) e ∙ ap (λ n. drop n (c ++ d)) n ∙ drop-append_seam c d

-- A blob's message is determined by its last four bytes, and its segment is what is left.
pub one_blob : (blob segment segment' message message' : List ℕ) → IsBlob blob segment message → IsBlob blob segment' message' → (segment ≡ segment') × (message ≡ message')
one_blob blob segment segment' message message' a b =
    let same = sym a.parts ∙ b.parts in
    let words : length a.word ≡ length b.word = omega (arith, a.word_len, b.word_len) in
    let fronts_same = fronts (segment ++ message) a.word (segment' ++ message') b.word same words in
    let lens : length message ≡ length message' = a.message_len ∙ ap (λ word. from_le_bytes w32 word) (backs (segment ++ message) a.word (segment' ++ message') b.word same words) ∙ sym b.message_len in
    (fronts segment message segment' message' fronts_same lens, backs segment message segment' message' fronts_same lens)

-- Two readings of a blob have the same parts.
pub record AreSame (blob : List ℕ) (ids : List (List ℕ)) (w w' : Wire) (a : Carries blob ids w) (b : Carries blob ids w') : Type 0 where
  pub segment : a.segment ≡ b.segment
  pub message : a.message ≡ b.message
  pub value : a.value ≡ b.value
  pub root : a.root ≡ b.root
  pub tree : w ≡ w'

-- What a blob carries, with a list of identifiers, is one tree, with one segment, message and value.
pub carried_once : (blob : List ℕ) (ids : List (List ℕ)) (w w' : Wire) (a : Carries blob ids w) (b : Carries blob ids w') → AreSame blob ids w w' a b
carried_once blob ids w w' a b =
    let parts = one_blob blob a.segment b.segment a.message b.message a.blob_is b.blob_is in
    let shows : Shows array_schema b.message a.value = (let P : List ℕ → Type 0 = λ m. Shows array_schema m a.value in subst P parts.1 a.shows) in
    let value : a.value ≡ b.value = shown-one array_schema b.message a.value b.value shows b.shows in
    let root : a.root ≡ b.root = same_Some a.root b.root (sym a.root_is ∙ ap (λ v. (message_of v).root) value ∙ b.root_is) in
    let tree : w ≡ w' =
    a.wire_is
    ∙ ap (λ s. wire_of ids (buffers_at s 0 (message_of a.value).descriptors) a.root) parts.0
    ∙ ap (λ v. wire_of ids (buffers_at b.segment 0 (message_of v).descriptors) a.root) value
    ∙ ap (λ r. wire_of ids (buffers_at b.segment 0 (message_of b.value).descriptors) r) root
    ∙ sym b.wire_is in
    record { segment = parts.0; message = parts.1; value = value; root = root; tree = tree }

-- The wire tree of a blob's array is the one that the blob carries.
pub opened : (most : Limits) (blob : List ℕ) (ids : List (List ℕ)) (a : Serialized) → IsBlobOf most blob a → IsOpened most blob ids (wire_in ids a)
opened most blob ids a h =
    let told = h.message_is in
    let own = h.buffers ∙ ap (λ ds. buffers_at h.segment 0 ds) told.descriptors in
    let P : List Descriptor → Type 0 = λ ds. AreClean h.segment ds in
    record {
      carried = record {
        segment = h.segment;
        message = h.message;
        value = told.value;
        root = a.root;
        blob_is = h.blob_is;
        shows = told.shows;
        root_is = told.root;
        wire_is = ap (λ bs. wire_of ids bs a.root) own;
      };
      clean = subst P told.descriptors h.clean;
      within_limits = told.within_limits;
    }
