-- A builder that goes on from link to link of a block: for the proofs of other crates.
use Rattle.std.proofs.Common.{◌≡◌, ◌∙◌, ◌<◌, ◌^◌, false, ℕ, ◌+◌, ◌-◌, List, [], ◌∷◌, ◌++◌, length, None, ap, sym, subst, refl}
use Rattle.vx_flat.specs.declared.error.FlatError.{FlatError}
use Rattle.vx_flat.specs.Building.{Built, Link, AreLeft, with_piece, with_pieces, waiting, links_of, later_links, next_link}
use Rattle.vx_flat.specs.Building.{AreWritten, IsNext, IsAwaited, IsPartWay, Takes, RefusesPiece, RefusesPieces, element_links}
use Rattle.vx_flat.specs.Pieces.{Piece, links_piece}
use Rattle.vx_flat.specs.declared.builder.piece.LinkKind.{LinkKind}
use Rattle.vx_flat.proofs.LawsOfBuilding.{with_pieces-runs, failed-with_pieces, waits-with_pieces, left-with_piece, stopped-first, stopped-later, element_links-next}

-- After the block itself.
pub begun : (b now : Built) (p q : Piece) (ls : List Link) → now ≡ with_piece b q → q ≡ p → links_of b.count p ≡ ls → IsPartWay b p ls [] now
begun b now p q ls h e f =
    let s = h ∙ ap (with_piece b) e in
    record {
      same = s;
      left = subst (λ ks. AreLeft ks now.left b.left) f
          (subst (λ (x : Built). AreLeft (links_of b.count p) x.left b.left) (sym s) (left-with_piece b p));
    }

-- After the blocks of one more link.
pub gone_on : (b : Built) (p : Piece) (l : Link) (ls : List Link) (ps : List Piece) (now mid new : Built) (qs : List Piece)
    → IsPartWay b p (l ∷ ls) ps now → (now.failed ≡ false → mid ≡ waiting now) → AreWritten mid qs new → IsPartWay b p ls (ps ++ qs) new
gone_on b p l ls ps now mid new [] h e w = absurd w.some
gone_on b p l ls ps now mid new (q ∷ qs) h e w =
    let works : now.failed ≡ false = ap (λ (x : Built). x.failed) h.same ∙ failed-with_pieces b p ps in
    let waited = e works in
    record {
      same = w.blocks ∙ (ap (λ m. with_pieces m (q ∷ qs)) (waited ∙ ap waiting h.same) ∙ with_pieces-runs b p ps q qs);
      left = subst (λ z. AreLeft ls z b.left)
          (sym (w.linked ∙ (ap (λ (x : Built). x.left) waited ∙ ap later_links h.left.2))) h.left.3;
    }

module _ (b : Built) (p : Piece) (ls : List Link) (ps : List Piece) (now : Built) (h : IsPartWay b p ls ps now) where
  -- The builder has not failed, and no link waits.
  pub works : now.failed ≡ false
  works = ap (λ (x : Built). x.failed) h.same ∙ failed-with_pieces b p ps

  pub idle : now.waits ≡ None
  idle = ap (λ (x : Built). x.waits) h.same ∙ waits-with_pieces b p ps

-- The next link is the first of those that are left.
pub next_is : (b : Built) (p : Piece) (l : Link) (ls : List Link) (ps : List Piece) (now : Built) → IsPartWay b p (l ∷ ls) ps now
    → IsNext now.left l.block l.index
next_is b p l ls ps now h = subst (λ z. IsNext z l.block l.index) (sym h.left.2) (refl, refl)

-- Where elements are left, the next link is that of the next one.
pub next_left : (b : Built) (k : LinkKind) (count i : ℕ) (ps : List Piece) (now : Built) → i < count
    → IsPartWay b (links_piece k count) (element_links b.count i k (count - i)) ps now
    → IsPartWay b (links_piece k count) (record { block = b.count; index = i; kind = k } ∷ element_links b.count (i + 1) k (count - (i + 1))) ps now
next_left b k count i ps now lt h = subst (λ ls. IsPartWay b (links_piece k count) ls ps now) (element_links-next b.count i count k lt) h

-- It points at a block of its kind.
pub awaited : (b : Built) (p : Piece) (l : Link) (ls : List Link) (ps : List Piece) (now mid : Built) → IsPartWay b p (l ∷ ls) ps now
    → (now.failed ≡ false → mid ≡ waiting now) → Takes l.kind mid
awaited b p l ls ps now mid h e =
    let waited = e (works b p (l ∷ ls) ps now h) in
    λ f. subst (λ o. IsAwaited l.kind o mid.count) (sym (ap (λ (x : Built). x.waits) waited ∙ ap next_link h.left.2)) refl

-- All blocks are there.
pub ended : (b : Built) (p : Piece) (ps : List Piece) (now : Built) → IsPartWay b p [] ps now → length now.bytes < 2 ^ 31
    → AreWritten b (p ∷ ps) now
ended b p ps now h fits = record { some = tt; blocks = h.same; linked = h.left; fits = fits }

-- Where the blocks of a link stop, the whole stops.
pub cut_short : (b : Built) (p : Piece) (ls : List Link) (ps : List Piece) (now mid new : Built) (qs rs whole : List Piece) (e : FlatError)
    → IsPartWay b p ls ps now → (now.failed ≡ false → mid ≡ waiting now) → RefusesPieces mid qs e new → (p ∷ ps) ++ (qs ++ rs) ≡ whole → RefusesPieces b whole e new
cut_short b p ls ps now mid new qs rs whole e h m s w =
    subst (λ z. RefusesPieces b z e new) w
    (stopped-later b mid new p ps qs rs e (m (works b p ls ps now h) ∙ ap waiting h.same) s)

-- Where the block itself is refused, the whole stops.
pub refused : (b new : Built) (p q : Piece) (ps : List Piece) (e : FlatError) → q ≡ p → RefusesPiece b q e new → RefusesPieces b (p ∷ ps) e new
refused b new p q ps e w r = stopped-first b new p ps e (subst (λ z. RefusesPiece b z e new) w r)
