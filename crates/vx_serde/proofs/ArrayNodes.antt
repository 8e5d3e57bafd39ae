-- The blocks of an array's node, and why they are not written.
use Rattle.std.proofs.Common.{ℕ, ◌≡◌, ◌<◌, List, Some, length, refl, ap, ◌∙◌, arith, inl, inr}
use Rattle.std.specs.Prelude.{◌⊎◌, false}
use Rattle.vx_buffer.specs.Buffer.{Buffer}
use Rattle.vx_flat.specs.declared.error.FlatError.{FlatError}
use Rattle.vx_flat.specs.declared.error.FlatError.TheVariants as flat
use Rattle.vx_flat.specs.Building.{Built, with_pieces, Written, RefusesPieces}
use Rattle.vx_flat.specs.Pieces.{Piece, table_pieces}
use Rattle.vx_trees.specs.Walks.{nodes}
use Rattle.vx_array_tree.specs.Tree.{Tree}
use Rattle.vx_wire_tree.specs.Context.{Context, grown_by}
use Rattle.vx_wire_tree.specs.Session.{SessionMeaning}
use Rattle.vx_wire_tree.specs.Wire.{ids_in, buffers_in}
use Rattle.vx_wire_tree.specs.Written.{wire}
use Rattle.vx_encodings.specs.Messages.{codec}
use Rattle.vx_serialized.specs.declared.error.WireError.{WireError}
use Rattle.vx_serialized.specs.declared.error.WireError.TheVariants.{OutOfMemory, NotPermitted, WireLimit}
use Rattle.vx_serde.specs.ArrayNode.{plain_options, array_value, array_pieces, RefusesBlocks}
use Rattle.vx_serialized.specs.ArraySchema.{array_schema, node_fields}
use Rattle.vx_flat.specs.Building.{AreWritten}
use Rattle.vx_serde.specs.Blocks.{encodings_in, node_pieces, layout_by}
use Rattle.vx_serde.specs.MessageValue.{node_value, descriptors_bytes}
use Rattle.vx_serde.specs.Numbered.{numbered}
use Rattle.vx_serde.specs.Placing.{descriptors_from}
use Rattle.vx_serialized.specs.ReadingSteps.{message_refusal}
use Rattle.vx_serde.specs.WritingSteps.{RefusesIds, layout_of}
use Rattle.vx_serde.proofs.MessageBlocks.{too-many}
use Rattle.vx_serde.proofs.NumberedBy.{as-many, root-numbered, layout-numbered, message-of_kind}
use Rattle.vx_serde.proofs.WholeBlob.{unwritten}
use Rattle.vx_serde.proofs.WiredStats.{wire-tabled, wire-told}
use Rattle.vx_serde.proofs.WrittenAgain.{grown-ids, wire-whole}

module _ (s : SessionMeaning) (t : Tree) (c : Context) where
  -- The blocks of the nodes whose encodings have the numbers of the grown context.
  pub pieces-are : (d : Context) (es : List ℕ) → grown_by (ids_in (wire codec s t)) c ≡ Some d → es ≡ encodings_in d.ids (wire codec s t)
      → node_pieces es 0 0 (wire codec s t) ≡ array_pieces s t c
  pieces-are d es g e =
      let w = wire codec s t in
      ap (λ root. table_pieces array_schema node_fields (node_value root)) (root-numbered d.ids w es e ∙ ap (λ ids. numbered ids 0 w) (grown-ids s t c d g))

  -- A tree whose nodes are not gathered.
  pub ungathered : (b : Built) (e : WireError) → RefusesIds (ids_in (wire codec s t)) c e → RefusesBlocks s t c b b e
  ungathered b OutOfMemory h = tt
  ungathered b NotPermitted h = (refl, h)
  ungathered b _ h = absurd h

  -- An array of too many buffers or nodes.
  pub too-much : (b : Built) (d : Context) (es : List ℕ) (bs : List Buffer) → grown_by (ids_in (wire codec s t)) c ≡ Some d → es ≡ encodings_in d.ids (wire codec s t) → bs ≡ buffers_in (wire codec s t)
      → (65535 < length bs) ⊎ (499999 < length es) → RefusesBlocks s t c b b WireLimit
  too-much b d es bs g e f (inl l) = inl (refl, λ k. omega (arith, l, k.writable.tree.few, ap (λ z. length z) f))
  too-much b d es bs g e f (inr l) = inl (
    refl,
    λ k.
        let w = wire codec s t in
        let bytes = descriptors_bytes (descriptors_from plain_options 0 (buffers_in w)) in
        let of = message-of_kind d.ids w es bytes e c d (descriptors_from plain_options 0 (buffers_in w)) refl g (wire-whole codec s t) (wire-tabled s t) k.writable.tree.few refl in
        let many : 499999 < nodes w = omega (arith, l, as-many d.ids w es e) in
        unwritten s t c plain_options bytes (layout_by es w bytes) WireLimit refl (layout-numbered d.ids w es bytes e ∙ ap (λ ids. layout_of ids w bytes) (grown-ids s t c d g)) (too-many es w bytes of false (wire-told s t) many) k,
  )

  -- An array whose blocks a builder does not take.
  pub blocks-refused : (b new : Built) (e : FlatError) → RefusesPieces b (array_pieces s t c) e new → RefusesBlocks s t c b new (message_refusal e)
  blocks-refused b new flat.OutOfMemory h = tt
  blocks-refused b new flat.MessageTooLong h = inr (h.1, h.2)
  blocks-refused b new flat.BadTable h = absurd h
  blocks-refused b new flat.TableLimit h = absurd h

  -- Its blocks are those of its value.
  pub value-written : (b new : Built) (ps : List Piece) → ps ≡ array_pieces s t c → AreWritten b ps new → Written array_schema node_fields (array_value s t c) b new
  value-written b new ps e h = record { blocks = h.blocks ∙ ap (λ z. with_pieces b z) e; linked = h.linked }
