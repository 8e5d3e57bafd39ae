-- A builder that writes in several runs, and where it stops: for the proofs of other crates.
use Rattle.std.proofs.Common.{◌≡◌, ℕ, suc, ◌+◌, ◌-◌, ◌<◌, List, ◌∷◌, ◌++◌, Bool, false, None, ap, arith}
use Rattle.vx_flat.specs.declared.builder.piece.LinkKind.{LinkKind}
use Rattle.vx_flat.specs.declared.error.FlatError.{FlatError}
use Rattle.vx_flat.specs.declared.error.FlatError.TheVariants.{OutOfMemory, BadTable, TableLimit, MessageTooLong}
use Rattle.vx_flat.specs.declared.schema.FieldKind.{FieldKind}
use Rattle.vx_flat.specs.Building.{Built, waiting, with_piece, with_pieces, nothing_by, RefusesPiece, RefusesPieces, Keeps, AreLeft, links_of, element_links}
use Rattle.vx_flat.specs.IsOf.{IsOf, AreOf}
use Rattle.vx_flat.specs.Layout.{layout}
use Rattle.vx_flat.specs.Pieces.{Piece, pieces, entries, AreEntries}
use Rattle.vx_flat.specs.Schema.{Schema}
use Rattle.vx_flat.specs.Value.{Fields}
use Rattle.vx_flat.proofs.Continuing.{runs, runs_work, runs_idle, runs_some, runs_share, stops_first, stops_later, links_left}
use Rattle.vx_flat.proofs.Entries.{entries_taken}
use Rattle.vx_flat.proofs.Linked.{value_bytes}

-- The blocks of a value, written from nothing on, are its layout.
pub bytes-with_pieces : (s : Schema) (shares : Bool) (v : Fields) → IsOf s v
    → (with_pieces (nothing_by shares) (pieces s v)).bytes ≡ layout shares s v
bytes-with_pieces s shares v of = value_bytes s shares v of

-- Blocks that are written in two runs, where a link points at the second, are written in one.
pub with_pieces-runs : (b : Built) (p : Piece) (ps : List Piece) (q : Piece) (qs : List Piece)
    → with_pieces (waiting (with_pieces b (p ∷ ps))) (q ∷ qs) ≡ with_pieces b ((p ∷ ps) ++ (q ∷ qs))
with_pieces-runs b p ps q qs = runs b p ps q qs

-- After blocks the builder has not failed, no link waits, and there are some.
pub failed-with_pieces : (b : Built) (p : Piece) (ps : List Piece) → (with_pieces b (p ∷ ps)).failed ≡ false
failed-with_pieces b p ps = runs_work b p ps

pub waits-with_pieces : (b : Built) (p : Piece) (ps : List Piece) → (with_pieces b (p ∷ ps)).waits ≡ None
waits-with_pieces b p ps = runs_idle b p ps

pub count-with_pieces : (b : Built) (p : Piece) (ps : List Piece) → 0 < (with_pieces b (p ∷ ps)).count
count-with_pieces b p ps = runs_some b p ps

-- The form is that with which the builder began.
pub shares-with_pieces : (b : Built) (p : Piece) (ps : List Piece) → (with_pieces b (p ∷ ps)).shares ≡ b.shares
shares-with_pieces b p ps = runs_share b p ps

-- The links of the elements of a vector follow one another.
pub element_links-next : (n i count : ℕ) (k : LinkKind) → i < count → element_links n i k (count - i)
    ≡ record { block = n; index = i; kind = k } ∷ element_links n (i + 1) k (count - (i + 1))
element_links-next n i count k lt =
    let e : count - i ≡ suc (count - (i + 1)) = omega arith in ap (λ m. element_links n i k m) e

-- The links of a block are left after it, before those that were left.
pub left-with_piece : (b : Built) (p : Piece) → AreLeft (links_of b.count p) (with_piece b p).left b.left
left-with_piece b p = links_left b p

-- Where the first block is refused, the whole stops.
pub stopped-first : (old new : Built) (p : Piece) (ps : List Piece) (e : FlatError) → RefusesPiece old p e new
    → RefusesPieces old (p ∷ ps) e new
stopped-first old new p ps e h = stops_first old new p ps e h

-- Where after some blocks a later run stops, the whole stops.
pub stopped-later : (old mid new : Built) (p : Piece) (ps qs rs : List Piece) (e : FlatError)
    → mid ≡ waiting (with_pieces old (p ∷ ps)) → RefusesPieces mid qs e new → RefusesPieces old ((p ∷ ps) ++ (qs ++ rs)) e new
stopped-later old mid new p ps qs rs e is h = stops_later old mid new p ps qs rs e is h

-- A builder takes the entries of each table of a schema.
pub entries-taken : (s : Schema) (ks : List FieldKind) (v : Fields) → AreOf s ks v → AreEntries false (entries ks v)
entries-taken s ks v of = entries_taken s ks v of

-- Where the writing of blocks stops, those that were there are kept.
pub keeps-stopped : (old new : Built) (ps : List Piece) (e : FlatError) → RefusesPieces old ps e new → Keeps old ps new
keeps-stopped old new ps OutOfMemory h = h
keeps-stopped old new ps MessageTooLong h = h.0
keeps-stopped old new ps BadTable h = absurd h
keeps-stopped old new ps TableLimit h = absurd h
