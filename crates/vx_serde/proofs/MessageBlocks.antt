-- The blocks of a message, and why they are not written.
use Rattle.std.proofs.Common.{ℕ, ◌≡◌, ◌*◌, ◌<◌, ◌^◌, List, [], ◌∷◌, ◌++◌, length, refl, sym, ap, ◌∙◌, subst, arith, inl, inr}
use Rattle.std.specs.Prelude.{Bool, false, None, Result, Ok, Err, IfOk, OnOk}
use Rattle.vx_flat.specs.declared.builder.piece.BlockField.TheVariants as entry
use Rattle.vx_flat.specs.declared.builder.piece.LinkKind.TheVariants as link
use Rattle.vx_flat.specs.declared.error.FlatError.{FlatError}
use Rattle.vx_flat.specs.declared.error.FlatError.TheVariants as flat
use Rattle.vx_flat.specs.Building.{Built, Link, nothing_built, with_pieces, RefusesPieces, IsTooLong}
use Rattle.vx_flat.specs.IsOf.{IsOf}
use Rattle.vx_flat.specs.Layout.{shares}
use Rattle.vx_flat.specs.declared.limits.Limits.{Limits}
use Rattle.vx_flat.specs.Limits.{limits_to, KeepsLimits}
use Rattle.vx_flat.specs.Pieces.{Piece, table_piece, elements_piece, pieces}
use Rattle.vx_flat.specs.Schema.{struct_size}
use Rattle.vx_flat.specs.Shows.{Shows}
use Rattle.vx_flat.specs.Value.{Fields}
use Rattle.vx_flat.specs.Weight.{weight}
use Rattle.vx_flat.proofs.LawsOfBuilding.{bytes-with_pieces, count-with_pieces, failed-with_pieces, waits-with_pieces}
use Rattle.vx_flat.proofs.LawsOfMessages.{weight-shown}
use Rattle.vx_trees.specs.Everywhere.{Everywhere}
use Rattle.vx_trees.specs.Walks.{nodes}
use Rattle.vx_wire_tree.specs.Wire.{Wire}
use Rattle.vx_serialized.specs.declared.error.WireError.{WireError}
use Rattle.vx_serialized.specs.declared.error.WireError.TheVariants.{WireLimit}
use Rattle.vx_serialized.specs.ArraySchema.{array_schema}
use Rattle.vx_flat.specs.Building.{AreWritten}
use Rattle.vx_serde.specs.Blocks.{node_pieces, message_by, layout_by}
use Rattle.vx_serialized.specs.ReadingSteps.{message_refusal}
use Rattle.vx_serde.specs.WritingSteps.{AreDescriptors, RefusesBytes}
use Rattle.vx_serde.proofs.Carried.{shows-layout}
use Rattle.vx_serde.proofs.MessageRead.{length-descriptors_bytes}
use Rattle.vx_serde.proofs.NumberedBy.{message-tables}
use Rattle.vx_serde.proofs.WiredStats.{IsToldNode}

-- ---- the blocks

-- The block of a message itself.
abbrev pub message_piece : Piece
message_piece = table_piece (entry.Link link.Table ∷ entry.Link link.Vector ∷ [])

abbrev pub root_link : ℕ → Link
root_link n = record { block = n; index = 0; kind = link.Table }

abbrev pub descriptors_link : ℕ → Link
descriptors_link n = record { block = n; index = 1; kind = link.Vector }

-- A descriptor's struct has eight bytes.
eight : struct_size array_schema 0 ≡ 8
unfolding struct_size
eight = refl

-- A message's blocks: its own, its nodes' and its descriptors'.
pub message-blocks : (es : List ℕ) (w : Wire) (bytes : List ℕ)
    → message_piece ∷ (node_pieces es 0 0 w ++ (elements_piece 8 bytes ∷ [])) ≡ pieces array_schema (message_by es w bytes)
message-blocks es w bytes = ap (λ n. message_piece ∷ (node_pieces es 0 0 w ++ (elements_piece n bytes ∷ []))) (sym eight)

pub whole-descriptors : (bytes : List ℕ) → AreDescriptors bytes → (n : ℕ) × (length bytes ≡ 8 * n)
whole-descriptors bytes are = (length are.0, ap (λ z. length z) are.1 ∙ length-descriptors_bytes are.0)

-- ---- what they make, from nothing on

module _ (es : List ℕ) (w : Wire) (bytes : List ℕ) (of : IsOf array_schema (message_by es w bytes)) where
  pub layout-written : (b : Built) → AreWritten nothing_built (pieces array_schema (message_by es w bytes)) b → b.bytes ≡ layout_by es w bytes
  layout-written b h = ap (λ (x : Built). x.bytes) h.blocks ∙ bytes-with_pieces array_schema shares (message_by es w bytes) of

  pub message-shown : (m : List ℕ) → m ≡ layout_by es w bytes → length m < 2 ^ 31 → (v : Fields) × Shows array_schema m v
  message-shown m e short =
      let P : List ℕ → Type 0 = λ z. length z < 2 ^ 31 in
      let Q : List ℕ → Type 0 = λ z. Shows array_schema z (message_by es w bytes) in
      (message_by es w bytes, subst Q (sym e) (shows-layout (message_by es w bytes) of (subst P e short)))

  pub blocks-refused : (most : Limits) (e : FlatError) (b : Built) → RefusesPieces nothing_built (pieces array_schema (message_by es w bytes)) e b → RefusesBytes most (layout_by es w bytes) (message_refusal e)
  blocks-refused most flat.OutOfMemory b h = tt
  blocks-refused most flat.MessageTooLong b h = λ short within_limits. at h.2 short where
    at : IsTooLong nothing_built (pieces array_schema (message_by es w bytes)) → length (layout_by es w bytes) < 2 ^ 31 → ⊥
    at (inl f) short = absurd (cc)
    at (inr l) short = omega (arith, l, short, ap (λ z. length z) (bytes-with_pieces array_schema shares (message_by es w bytes) of))
  blocks-refused most flat.BadTable b h = absurd h
  blocks-refused most flat.TableLimit b h = absurd h

  -- A message of more nodes has too many tables.
  pub too-many : (deep : Bool) → Everywhere IsToldNode w → 499999 < nodes w → RefusesBytes (limits_to deep) (layout_by es w bytes) WireLimit
  too-many deep told n = λ short within_limits.
      let shown = shows-layout (message_by es w bytes) of short in
      omega (arith, n, within_limits.1, ap (λ z. z.tables) (weight-shown array_schema (layout_by es w bytes) (message_by es w bytes) shown), message-tables es w bytes told)

  pub over_limits : (most : Limits) (m : List ℕ) (e : WireError) → m ≡ layout_by es w bytes → (e ≡ WireLimit) × (KeepsLimits most (weight array_schema m) → ⊥) → RefusesBytes most (layout_by es w bytes) e
  over_limits most m e is h =
      let P : List ℕ → Type 0 = λ z. KeepsLimits most (weight array_schema z) → ⊥ in
      let Q : WireError → Type 0 = λ z. RefusesBytes most (layout_by es w bytes) z in
      subst Q (sym h.0) (λ short within_limits. subst P is h.1 within_limits)

  -- A builder has these tables at least, and is not in the middle of a block.
  module _ (b : Built) (h : AreWritten nothing_built (pieces array_schema (message_by es w bytes)) b) where
    same : b ≡ with_pieces nothing_built (message_piece ∷ (node_pieces es 0 0 w ++ (elements_piece 8 bytes ∷ [])))
    same = h.blocks ∙ ap (λ ps. with_pieces nothing_built ps) (sym (message-blocks es w bytes))

    pub some-written : 0 < b.count
    some-written =
        let P : Built → Type 0 = λ x. 0 < x.count in
        subst P (sym same) (count-with_pieces nothing_built message_piece (node_pieces es 0 0 w ++ (elements_piece 8 bytes ∷ [])))

    pub works-written : b.failed ≡ false
    works-written = ap (λ (x : Built). x.failed) same ∙ failed-with_pieces nothing_built message_piece (node_pieces es 0 0 w ++ (elements_piece 8 bytes ∷ []))

    pub idle-written : b.waits ≡ None
    idle-written = ap (λ (x : Built). x.waits) same ∙ waits-with_pieces nothing_built message_piece (node_pieces es 0 0 w ++ (elements_piece 8 bytes ∷ []))

-- ---- results

-- A fact of some bytes holds of those of an Ok result, where they are equal.
pub if_ok-same : {T E : Type 0} (r : Result T E) (f : T → List ℕ) (m : List ℕ) (Q : List ℕ → Type 0) → IfOk r (λ x. f x ≡ m) → OnOk r (Q m) → IfOk r (λ x. Q (f x))
if_ok-same (Ok x) f m Q h q = subst Q (sym h) q
if_ok-same (Err e) f m Q h q = tt

-- What holds of an Ok result may be used in what follows from it.
pub if_ok_where : {T E : Type 0} (r : Result T E) (H : Type 0) (P Q : T → Type 0) → (H → (x : T) → P x → Q x) → OnOk r H → IfOk r P → IfOk r Q
if_ok_where (Ok x) H P Q f k h = f k x h
if_ok_where (Err e) H P Q f k h = tt
