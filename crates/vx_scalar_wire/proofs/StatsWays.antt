-- How far the blocks of a table of statistics are.
use Rattle.std.proofs.Common.{◌≡◌, ◌∙◌, ◌++◌, false, ℕ, List, [], ◌∷◌, sym, ap, subst, append_assoc}
use Rattle.vx_flat.specs.declared.builder.piece.BlockField.{BlockField}
use Rattle.vx_flat.specs.declared.error.FlatError.{FlatError}
use Rattle.vx_flat.specs.Building.{Built, Link, Written, with_piece, with_pieces, IsPartWay, RefusesPiece, RefusesPieces}
use Rattle.vx_flat.specs.Pieces.{Piece, AreEntries, entries, fields_pieces, table_piece}
use Rattle.vx_flat.proofs.LawsOfBuilding.{entries-taken}
use Rattle.vx_flat.proofs.LawsOfLinks.{begun, refused}
use Rattle.vx_scalars.specs.Stats.{Stats}
use Rattle.vx_scalar_wire.specs.StatsBlocks.{IsStoredOf, table_entries, vector_pieces, vector_links}
use Rattle.vx_scalar_wire.specs.StatsSchema.{stats_fields, stats_schema}
use Rattle.vx_scalar_wire.specs.StatsTable.{stats_table, stats_pieces}
use Rattle.vx_scalar_wire.specs.declared.stats.entries.Stored.{Stored}
use Rattle.vx_scalar_wire.proofs.StatsEntries.{table_of_kind, same_entries, same_links, same_pieces, regrouped}

-- The table's own block.
abbrev pub head : Stats → Stored → Piece
head t x = table_piece (table_entries t x)

-- The links to the sum, to it and the greatest value, and to all three.
abbrev pub last_links : ℕ → Stored → List Link
last_links n x = vector_links n 4 x.sum ++ []

abbrev pub later_links : ℕ → Stored → List Link
later_links n x = vector_links n 2 x.greatest ++ last_links n x

abbrev pub all_links : ℕ → Stored → List Link
all_links n x = vector_links n 0 x.least ++ later_links n x

-- A builder takes the entries.
pub taken : (t : Stats) (x : Stored) (es : List BlockField) → IsStoredOf t x → es ≡ table_entries t x → AreEntries false es
taken t x es h e =
    subst (λ (z : List BlockField). AreEntries false z) (sym (e ∙ same_entries t x h)) (entries-taken stats_schema stats_fields (stats_table t) (table_of_kind t))

-- It was refused,
pub refused_first : (t : Stats) (x : Stored) (es : List BlockField) (old new : Built) (e : FlatError) → IsStoredOf t x → es ≡ table_entries t x → RefusesPiece old (table_piece es) e new
    → RefusesPieces old (stats_pieces t) e new
refused_first t x es old new e h is r =
    refused old new (table_piece (entries stats_fields (stats_table t))) (table_piece es) (fields_pieces stats_schema stats_fields (stats_table t)) e
    (ap (λ (z : List BlockField). table_piece z) (is ∙ same_entries t x h)) r

-- or written.
pub at_first : (t : Stats) (x : Stored) (es : List BlockField) (n : ℕ) (old now : Built) → es ≡ table_entries t x → n ≡ old.count → now ≡ with_piece old (table_piece es)
    → IsPartWay old (head t x) (all_links n x) [] now
at_first t x es n old now e m w =
    begun old now (head t x) (table_piece es) (all_links n x) w (ap (λ (z : List BlockField). table_piece z) e) (same_links old.count t x ∙ ap (λ (k : ℕ). all_links k x) (sym m))

-- Where a vector is refused, the table stops: the first or the second,
pub stopped_early : (t : Stats) (x : Stored) (old new : Built) (e : FlatError) → IsStoredOf t x
    → RefusesPieces old (head t x ∷ (vector_pieces x.least ++ (vector_pieces x.greatest ++ (vector_pieces x.sum ++ [])))) e new → RefusesPieces old (stats_pieces t) e new
stopped_early t x old new e h s = subst (λ (ps : List Piece). RefusesPieces old ps e new) (same_pieces t x h) s

-- or the third.
pub stopped_late : (t : Stats) (x : Stored) (old new : Built) (e : FlatError) → IsStoredOf t x
    → RefusesPieces old (head t x ∷ ((vector_pieces x.least ++ vector_pieces x.greatest) ++ (vector_pieces x.sum ++ []))) e new → RefusesPieces old (stats_pieces t) e new
stopped_late t x old new e h s =
    stopped_early t x old new e h
    (subst (λ (ps : List Piece). RefusesPieces old (head t x ∷ ps) e new) (append_assoc (vector_pieces x.least) (vector_pieces x.greatest) (vector_pieces x.sum ++ [])) s)

-- After the third the table is written.
pub all_written : (t : Stats) (x : Stored) (old new : Built) → IsStoredOf t x
    → IsPartWay old (head t x) [] ((vector_pieces x.least ++ vector_pieces x.greatest) ++ vector_pieces x.sum) new → Written stats_schema stats_fields (stats_table t) old new
all_written t x old new h w =
    let same : head t x ∷ ((vector_pieces x.least ++ vector_pieces x.greatest) ++ vector_pieces x.sum) ≡ stats_pieces t =
    ap (λ (ps : List Piece). head t x ∷ ps) (regrouped (vector_pieces x.least) (vector_pieces x.greatest) (vector_pieces x.sum)) ∙ same_pieces t x h in
    record { blocks = w.same ∙ ap (λ (ps : List Piece). with_pieces old ps) same; linked = w.left }
