-- A builder that writes in several runs, and where it stops.
use Rattle.std.proofs.Common.{◌≡◌, ℕ, suc, zero, ◌+◌, ◌-◌, ◌<◌, ◌≤◌, false, List, [], ◌∷◌, ◌++◌, inl, inr, length, take, drop}
use Rattle.std.proofs.Common.{refl, sym, ap, ◌∙◌, arith, append_assoc, append-nil, Option, Some, None, length-take, length-drop}
use Rattle.std.proofs.lemmas.List.{length-append}
use Rattle.vx_flat.specs.declared.builder.piece.BlockField.{BlockField}
use Rattle.vx_flat.specs.declared.builder.piece.BlockField.TheVariants as entry
use Rattle.vx_flat.specs.declared.builder.piece.LinkKind.{LinkKind}
use Rattle.vx_flat.specs.declared.builder.slot.Slot.{Slot}
use Rattle.vx_flat.specs.declared.error.FlatError.{FlatError}
use Rattle.vx_flat.specs.declared.error.FlatError.TheVariants.{OutOfMemory, BadTable, TableLimit}
use Rattle.vx_flat.specs.declared.error.FlatError.TheVariants.{MessageTooLong}
use Rattle.vx_flat.specs.Building.{Built, patch, targeted, offsets_after, with_piece, with_rest, with_pieces, waiting}
use Rattle.vx_flat.specs.Building.{IsTooLong, RefusesPiece, Keeps, RefusesPieces, AreLeft, links_of, entry_links, element_links}
use Rattle.vx_flat.specs.Building.{entry_slots, element_slots}
use Rattle.vx_flat.specs.CellForm.{end_after}
use Rattle.vx_flat.specs.FieldTables.{le_bytes, zeros, align}
use Rattle.vx_flat.specs.Layout.{block_bytes}
use Rattle.vx_flat.specs.Linking.{loose_block, cell_at}
use Rattle.vx_flat.specs.Pieces.{Piece, table_piece, elements_piece, links_piece, text_piece}
use Rattle.vx_flat.proofs.Bytes.{length_le}

-- blocks that are written in two runs are written in one
pub rest_runs : (b : Built) (ps qs : List Piece) → with_rest (with_rest b ps) qs ≡ with_rest b (ps ++ qs)
rest_runs b [] qs = refl
rest_runs b (p ∷ ps) qs = rest_runs (with_piece (waiting b) p) ps qs

-- blocks for a link are written after others
pub runs : (b : Built) (p : Piece) (ps : List Piece) (q : Piece) (qs : List Piece)
    → with_pieces (waiting (with_pieces b (p ∷ ps))) (q ∷ qs) ≡ with_pieces b ((p ∷ ps) ++ (q ∷ qs))
runs b p ps q qs = rest_runs (with_piece b p) ps (q ∷ qs)

-- a builder that wrote blocks had not failed with them
pub rest_works : (b : Built) (ps : List Piece) → b.failed ≡ false → (with_rest b ps).failed ≡ false
rest_works b [] h = h
rest_works b (p ∷ ps) h = rest_works (with_piece (waiting b) p) ps refl

pub runs_work : (b : Built) (p : Piece) (ps : List Piece) → (with_pieces b (p ∷ ps)).failed ≡ false
runs_work b p ps = rest_works (with_piece b p) ps refl

-- no link waits after blocks, and there are some
rest_idle : (b : Built) (ps : List Piece) → b.waits ≡ None → (with_rest b ps).waits ≡ None
rest_idle b [] h = h
rest_idle b (p ∷ ps) h = rest_idle (with_piece (waiting b) p) ps refl

pub runs_idle : (b : Built) (p : Piece) (ps : List Piece) → (with_pieces b (p ∷ ps)).waits ≡ None
runs_idle b p ps = rest_idle (with_piece b p) ps refl

rest_count : (b : Built) (ps : List Piece) → b.count ≤ (with_rest b ps).count
rest_count b [] = omega arith
rest_count b (p ∷ ps) = let a = rest_count (with_piece (waiting b) p) ps in omega (arith, a)

pub runs_some : (b : Built) (p : Piece) (ps : List Piece) → 0 < (with_pieces b (p ∷ ps)).count
runs_some b p ps = let a = rest_count (with_piece b p) ps in omega (arith, a)

-- the form is that with which the builder began
rest_shares : (b : Built) (ps : List Piece) → (with_rest b ps).shares ≡ b.shares
rest_shares b [] = refl
rest_shares b (p ∷ ps) = rest_shares (with_piece (waiting b) p) ps

pub runs_share : (b : Built) (p : Piece) (ps : List Piece) → (with_pieces b (p ∷ ps)).shares ≡ b.shares
runs_share b p ps = rest_shares (with_piece b p) ps

-- ---- the bytes only grow

patch_grows : (m : List ℕ) (p n : ℕ) → length m ≤ length (patch m p n)
patch_grows m p n =
    let a = length-append (take p m) (le_bytes 4 n ++ drop (p + 4) m) in
    let b = length-append (le_bytes 4 n) (drop (p + 4) m) in
    let c = length-take p m in
    let d = length-drop (p + 4) m in
    let e = length_le 4 n in
    omega (arith, a, b, c, d, e)

targeted_grows : (n : ℕ) (o : Option Slot) (target : ℕ) (m : List ℕ) → length m ≤ length (targeted n o target m)
targeted_grows n (Some l) target m = patch_grows m l.place (target - l.place)
targeted_grows zero None target m = patch_grows m 0 target
targeted_grows (suc n) None target m = omega arith

piece_grows : (b : Built) (p : Piece) → length b.bytes ≤ length (with_piece b p).bytes
piece_grows b p =
    let s = offsets_after b p in
    let m = targeted b.count b.waits s.target b.bytes in
    let a = targeted_grows b.count b.waits s.target b.bytes in
    let c = length-append m (zeros (s.start - length b.bytes) ++ block_bytes [] s (loose_block p)) in
    omega (arith, a, c)

pub rest_grows : (b : Built) (ps : List Piece) → length b.bytes ≤ length (with_rest b ps).bytes
rest_grows b [] = omega arith
rest_grows b (p ∷ ps) =
    let a = piece_grows (waiting b) p in
    let c = rest_grows (with_piece (waiting b) p) ps in
    omega (arith, a, c)

more_grows : (b : Built) (ps qs : List Piece) → length (with_pieces b ps).bytes ≤ length (with_pieces b (ps ++ qs)).bytes
more_grows b [] [] = omega arith
more_grows b [] (q ∷ qs) =
    let a = piece_grows b q in
    let c = rest_grows (with_piece b q) qs in
    omega (arith, a, c)
more_grows b (p ∷ ps) qs =
    let a = rest_grows (with_rest (with_piece b p) ps) qs in
    let e = ap (λ (b : Built). length b.bytes) (rest_runs (with_piece b p) ps qs) in
    omega (arith, a, e)

-- ---- where writing stops

longer : (b : Built) (ps qs : List Piece) → IsTooLong b ps → IsTooLong b (ps ++ qs)
longer b ps qs (inl f) = inl f
longer b ps qs (inr l) = let g = more_grows b ps qs in inr (omega (arith, g, l))

-- blocks after others, to which a link points
after : (b : Built) (p : Piece) (ps qs : List Piece)
    → (with_pieces (waiting (with_pieces b (p ∷ ps))) qs).bytes ≡ (with_pieces b ((p ∷ ps) ++ qs)).bytes
after b p ps [] = ap (λ z. (with_pieces b (p ∷ z)).bytes) (sym (append-nil ps))
after b p ps (q ∷ qs) = ap (λ (b : Built). b.bytes) (runs b p ps q qs)

longer_later : (old mid : Built) (p : Piece) (ps qs : List Piece) → mid ≡ waiting (with_pieces old (p ∷ ps))
    → IsTooLong mid qs → IsTooLong old ((p ∷ ps) ++ qs)
longer_later old mid p ps qs e (inl f) =
    let w : mid.failed ≡ false = ap (λ (b : Built). b.failed) e ∙ runs_work old p ps in absurd cc
longer_later old mid p ps qs e (inr l) =
    let a = ap (λ (b : Built). length (with_pieces b qs).bytes) e in
    let c = ap (λ (m : List ℕ). length m) (after old p ps qs) in
    inr (omega (arith, l, a, c))

regroup : (ps qs rs more rest : List Piece) → qs ≡ more ++ rest → ps ++ (qs ++ rs) ≡ (ps ++ more) ++ (rest ++ rs)
regroup ps qs rs more rest e =
    ap (λ qs. ps ++ (qs ++ rs)) e
    ∙ ap (λ z. ps ++ z) (append_assoc more rest rs)
    ∙ sym (append_assoc ps more (rest ++ rs))

keeps_later : (old mid new : Built) (p : Piece) (ps qs rs : List Piece) → mid ≡ waiting (with_pieces old (p ∷ ps))
    → Keeps mid qs new → Keeps old ((p ∷ ps) ++ (qs ++ rs)) new
keeps_later old mid new p ps qs rs e h = record {
  more = (p ∷ ps) ++ h.more;
  rest = h.rest ++ rs;
  front = regroup (p ∷ ps) qs rs h.more h.rest h.front;
  bytes = h.bytes ∙ (ap (λ (b : Built). (with_pieces b h.more).bytes) e ∙ after old p ps h.more);
}

keeps_same : (old new : Built) (ps : List Piece) → new.bytes ≡ old.bytes → Keeps old ps new
keeps_same old new ps e = record { more = []; rest = ps; front = refl; bytes = e }

-- where the first block is refused, the whole stops
pub stops_first : (old new : Built) (p : Piece) (ps : List Piece) (e : FlatError) → RefusesPiece old p e new
    → RefusesPieces old (p ∷ ps) e new
stops_first old new p ps OutOfMemory h = keeps_same old new (p ∷ ps) (ap (λ (b : Built). b.bytes) h)
stops_first old new p ps MessageTooLong h =
    (keeps_same old new (p ∷ ps) (ap (λ (b : Built). b.bytes) h.0), ap (λ (b : Built). b.failed) h.0, longer old (p ∷ []) ps h.1)
stops_first old new p ps BadTable h = h
stops_first old new p ps TableLimit h = h

-- where after some blocks a later run stops, the whole stops
pub stops_later : (old mid new : Built) (p : Piece) (ps qs rs : List Piece) (e : FlatError)
    → mid ≡ waiting (with_pieces old (p ∷ ps)) → RefusesPieces mid qs e new → RefusesPieces old ((p ∷ ps) ++ (qs ++ rs)) e new
stops_later old mid new p ps qs rs OutOfMemory b h = keeps_later old mid new p ps qs rs b h
stops_later old mid new p ps qs rs MessageTooLong b h =
    (keeps_later old mid new p ps qs rs b h.0, h.1, longer_later old mid p ps (qs ++ rs) b (longer mid qs rs h.2))
stops_later old mid new p ps qs rs BadTable b h = h
stops_later old mid new p ps qs rs TableLimit b h = h

-- ---- the links of a block

entries_left : (es : List BlockField) (n t i p : ℕ) (ls : List Slot) → AreLeft (entry_links n i es) (entry_slots n t i p es ++ ls) ls
entries_left [] n t i p ls = refl
entries_left (entry.Absent ∷ es) n t i p ls = entries_left es n t (i + 1) (end_after (cell_at entry.Absent 0) p) ls
entries_left (entry.Number w v ∷ es) n t i p ls = entries_left es n t (i + 1) (end_after (cell_at (entry.Number w v) 0) p) ls
entries_left (entry.UnknownMember ∷ es) n t i p ls = entries_left es n t (i + 1) (end_after (cell_at entry.UnknownMember 0) p) ls
entries_left (entry.Link k ∷ es) n t i p ls = (
  t + align 4 p,
  entry_slots n t (i + 1) (end_after (cell_at (entry.Link k) 0) p) es ++ ls,
  refl,
  entries_left es n t (i + 1) (end_after (cell_at (entry.Link k) 0) p) ls,
)

elements_left : (m n p i : ℕ) (k : LinkKind) (ls : List Slot) → AreLeft (element_links n i k m) (element_slots n k p i m ++ ls) ls
elements_left zero n p i k ls = refl
elements_left (suc m) n p i k ls = (p, element_slots n k (p + 4) (i + 1) m ++ ls, refl, elements_left m n (p + 4) (i + 1) k ls)

-- the links of a block are left after it
pub links_left : (b : Built) (p : Piece) → AreLeft (links_of b.count p) (with_piece b p).left b.left
links_left b (table_piece es) = entries_left es b.count (offsets_after b (table_piece es)).target 0 4 b.left
links_left b (elements_piece n bs) = refl
links_left b (links_piece k n) = elements_left n b.count ((offsets_after b (links_piece k n)).target + 4) 0 k b.left
links_left b (text_piece bs) = refl
