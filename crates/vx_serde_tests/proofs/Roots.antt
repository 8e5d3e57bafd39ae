-- The root of an array's message, and which of its links are left.
use Rattle.std.proofs.Common.{ℕ, ◌≡◌, Bool, true, false, List, [], ◌∷◌, None, refl, sym, ap, ◌∙◌, subst}
use Rattle.vx_flat.specs.declared.builder.piece.BlockField.TheVariants as entry
use Rattle.vx_flat.specs.declared.builder.piece.LinkKind.TheVariants as link
use Rattle.vx_flat.specs.declared.schema.FieldKind.{FieldKind}
use Rattle.vx_flat.specs.Building.{Built, Written, nothing_built, waiting, with_piece, later_links, next_link, IsNext, IsAwaited}
use Rattle.vx_flat.specs.Pieces.{Piece, table_piece, elements_piece, entries, fields_pieces}
use Rattle.vx_flat.specs.Schema.{Schema}
use Rattle.vx_flat.specs.Value.{Fields}
use Rattle.vx_flat.proofs.LawsOfBuilding.{failed-with_pieces, waits-with_pieces}
use Rattle.vx_types.specs.Known.{no_readers}
use Rattle.vx_wire_tree.specs.Session.{SessionMeaning}
use Rattle.vx_wire_tree.specs.Written.{writes_two}
use Rattle.vx_registry.specs.Session.{shipped_meaning, revised_meaning}

-- A session that writes primitives under two identifiers, or under one.
abbrev pub session_for : Bool → SessionMeaning
session_for true = revised_meaning no_readers
session_for false = shipped_meaning no_readers

pub writes_so : (two : Bool) → writes_two (session_for two) ≡ two
writes_so true = refl
writes_so false = refl

-- The root links a table and a vector.
abbrev root_piece : Piece
root_piece = table_piece (entry.Link link.Table ∷ entry.Link link.Vector ∷ [])

-- After the blocks of a table no link waits, and the builder has not failed.
module _ (s : Schema) (ks : List FieldKind) (vs : Fields) (old new : Built) (h : Written s ks vs old new) where
  pub then_idle : new.waits ≡ None
  then_idle = ap (λ (b : Built). b.waits) h.blocks ∙ waits-with_pieces old (table_piece (entries ks vs)) (fields_pieces s ks vs)

  pub then_works : new.failed ≡ false
  then_works = ap (λ (b : Built). b.failed) h.blocks ∙ failed-with_pieces old (table_piece (entries ks vs)) (fields_pieces s ks vs)

-- A root was written first, and the blocks of its table after it.
module _ (old root mid now : Built) (e : old ≡ nothing_built) (w : root ≡ with_piece old root_piece) (m : mid ≡ waiting root) (l : now.left ≡ mid.left) where
  left_is : now.left ≡ later_links (with_piece nothing_built root_piece).left
  left_is = l ∙ ap (λ (b : Built). b.left) m ∙ ap (λ (b : Built). later_links b.left) w ∙ ap (λ (b : Built). later_links (with_piece b root_piece).left) e

  -- The next link is the one to its vector.
  pub vector_next : (n : ℕ) → n ≡ old.count → IsNext now.left n 1
  vector_next n c =
      let zero_is : n ≡ 0 = c ∙ ap (λ (b : Built). b.count) e in
      subst (λ k. IsNext now.left k 1) (sym zero_is) (subst (λ ls. IsNext ls 0 1) (sym left_is) (refl, refl))

  -- So a vector is expected next.
  pub vector_awaited : (last : Built) → last ≡ waiting now → IsAwaited link.Vector last.waits last.count
  vector_awaited last h = subst (λ o. IsAwaited link.Vector o last.count) (sym (ap (λ (b : Built). b.waits) h ∙ ap next_link left_is)) refl

  -- And no link is left after it.
  pub none_left : (last new : Built) (n : ℕ) (bs : List ℕ) → last ≡ waiting now → new ≡ with_piece last (elements_piece n bs) → new.left ≡ []
  none_left last new n bs h k = ap (λ (b : Built). b.left) k ∙ ap (λ (b : Built). b.left) h ∙ ap later_links left_is
