-- A builder that goes on from link to link of a table of statistics.
use Rattle.std.proofs.Common.{◌≡◌, ◌∙◌, false, ℕ, List, [], ◌∷◌, ◌++◌, Option, Some, None, ap, sym, subst, refl, append-nil}
use Rattle.vx_flat.specs.declared.error.FlatError.{FlatError}
use Rattle.vx_flat.specs.declared.builder.piece.LinkKind.TheVariants as link
use Rattle.vx_flat.specs.Building.{Built, Link, AreLeft, with_piece, with_pieces, waiting, later_links}
use Rattle.vx_flat.specs.Building.{IsNext, IsPartWay, Takes, RefusesPiece, Keeps, RefusesPieces}
use Rattle.vx_flat.specs.Pieces.{Piece, elements_piece}
use Rattle.vx_flat.proofs.LawsOfBuilding.{with_pieces-runs, stopped-first, stopped-later}
use Rattle.vx_flat.proofs.LawsOfLinks.{works, idle, next_is, awaited}
use Rattle.vx_scalar_wire.specs.StatsBlocks.{IsAtLink, vector_links, vector_pieces}

-- After the vector of one more link.
pub gone_on : (b : Built) (p : Piece) (l : Link) (ls : List Link) (ps : List Piece) (now mid new : Built) (bytes : List ℕ)
    → IsPartWay b p (l ∷ ls) ps now → (now.failed ≡ false → mid ≡ waiting now) → new ≡ with_piece mid (elements_piece 1 bytes) → IsPartWay b p ls (ps ++ (elements_piece 1 bytes ∷ [])) new
gone_on b p l ls ps now mid new bytes h e w =
    let waited = e (works b p (l ∷ ls) ps now h) in
    record {
      same = w ∙ (ap (λ m. with_pieces m (elements_piece 1 bytes ∷ [])) (waited ∙ ap waiting h.same) ∙ with_pieces-runs b p ps (elements_piece 1 bytes) []);
      left = subst (λ z. AreLeft ls z b.left)
          (sym (ap (λ (x : Built). x.left) w ∙ (ap (λ (x : Built). x.left) waited ∙ ap later_links h.left.2))) h.left.3;
    }

-- Where no vector stands, nothing is written.
pub gone_past : (b : Built) (p : Piece) (ls : List Link) (ps : List Piece) (now : Built) → IsPartWay b p ls ps now → IsPartWay b p ls (ps ++ []) now
gone_past b p ls ps now h = subst (λ qs. IsPartWay b p ls qs now) (sym (append-nil ps)) h

-- Where the vector of a link is refused, the whole stops.
pub cut_short : (b : Built) (p : Piece) (l : Link) (ls : List Link) (ps rest : List Piece) (now mid new : Built) (q : Piece) (e : FlatError)
    → IsPartWay b p (l ∷ ls) ps now → (now.failed ≡ false → mid ≡ waiting now) → RefusesPiece mid q e new → RefusesPieces b ((p ∷ ps) ++ ((q ∷ []) ++ rest)) e new
cut_short b p l ls ps rest now mid new q e h m r =
    stopped-later b mid new p ps (q ∷ []) rest e (m (works b p (l ∷ ls) ps now h) ∙ ap waiting h.same) (stopped-first mid new q [] e r)

-- ---- bytes that may stand

-- Where they stand, the link to them is the next, and no other waits.
pub at_idle : (block index : ℕ) (o : Option (List ℕ)) (bytes : List ℕ) (now : Built) → o ≡ Some bytes → IsAtLink block index o now → now.waits ≡ None
at_idle block index None bytes now e h = absurd (cc)
at_idle block index (Some cs) bytes now e h = idle h.begun h.first (vector_links block index (Some cs) ++ h.later) h.before now h.way

pub at_next : (block index : ℕ) (o : Option (List ℕ)) (bytes : List ℕ) (now : Built) → o ≡ Some bytes → IsAtLink block index o now → IsNext now.left block index
at_next block index None bytes now e h = absurd (cc)
at_next block index (Some cs) bytes now e h = next_is h.begun h.first (record { block = block; index = index; kind = link.Vector }) h.later h.before now h.way

pub at_takes : (block index : ℕ) (o : Option (List ℕ)) (bytes : List ℕ) (now mid : Built) → o ≡ Some bytes → IsAtLink block index o now → (now.failed ≡ false → mid ≡ waiting now) → Takes link.Vector mid
at_takes block index None bytes now mid e h m = absurd (cc)
at_takes block index (Some cs) bytes now mid e h m = awaited h.begun h.first (record { block = block; index = index; kind = link.Vector }) h.later h.before now mid h.way m

-- They are written,
pub went_on : (block index : ℕ) (o : Option (List ℕ)) (bytes : List ℕ) (now mid new : Built) → o ≡ Some bytes → (now.failed ≡ false → mid ≡ waiting now) → new ≡ with_piece mid (elements_piece 1 bytes)
    → (b : Built) (p : Piece) (ls : List Link) (ps : List Piece) → IsPartWay b p (vector_links block index o ++ ls) ps now → IsPartWay b p ls (ps ++ vector_pieces o) new
went_on block index None bytes now mid new e m w b p ls ps h = absurd (cc)
went_on block index (Some cs) bytes now mid new e m w b p ls ps h =
    let same : bytes ≡ cs = cc in
    gone_on b p (record { block = block; index = index; kind = link.Vector }) ls ps now mid new cs h m (w ∙ ap (λ (x : List ℕ). with_piece mid (elements_piece 1 x)) same)

-- or do not stand,
pub went_past : (block index : ℕ) (o : Option (List ℕ)) (now : Built) → o ≡ None
    → (b : Built) (p : Piece) (ls : List Link) (ps : List Piece) → IsPartWay b p (vector_links block index o ++ ls) ps now → IsPartWay b p ls (ps ++ vector_pieces o) now
went_past block index None now e b p ls ps h = gone_past b p ls ps now h
went_past block index (Some cs) now e b p ls ps h = absurd (cc)

-- or are refused.
pub went_wrong : (block index : ℕ) (o : Option (List ℕ)) (bytes : List ℕ) (now mid new : Built) (e : FlatError) → o ≡ Some bytes → (now.failed ≡ false → mid ≡ waiting now) → RefusesPiece mid (elements_piece 1 bytes) e new
    → (b : Built) (p : Piece) (ls : List Link) (ps rest : List Piece) → IsPartWay b p (vector_links block index o ++ ls) ps now → RefusesPieces b ((p ∷ ps) ++ (vector_pieces o ++ rest)) e new
went_wrong block index None bytes now mid new e is m r b p ls ps rest h = absurd (cc)
went_wrong block index (Some cs) bytes now mid new e is m r b p ls ps rest h =
    let same : bytes ≡ cs = cc in
    cut_short b p (record { block = block; index = index; kind = link.Vector }) ls ps rest now mid new (elements_piece 1 cs) e h m (subst (λ (x : List ℕ). RefusesPiece mid (elements_piece 1 x) e new) same r)

pub ruleset vector_steps = (at_idle, at_next, at_takes, went_on, went_past, went_wrong)

-- ---- nothing

-- Where nothing was written, the builder keeps what it has.
pub nothing_kept : (old : Built) (ps : List Piece) → Keeps old ps old
nothing_kept old ps = record { more = []; rest = ps; front = refl; bytes = refl }
