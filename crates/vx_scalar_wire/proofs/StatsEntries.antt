-- The entries, the links and the blocks of a table of statistics.
use Rattle.std.specs.Prelude.{option_map}
use Rattle.std.proofs.Common.{◌≡◌, ◌∙◌, ◌+◌, ◌^◌, ◌++◌, Bool, true, false, ℕ, List, [], ◌∷◌, length, Option, Some, None, refl, sym, ap, arith, append_assoc, append-nil}
use Rattle.std.proofs.lemmas.Nat.{mod_below}
use Rattle.vx_flat.specs.declared.builder.piece.BlockField.{BlockField}
use Rattle.vx_flat.specs.declared.schema.FieldKind.TheVariants.{Number, OptNumber, OptFlag, Vector}
use Rattle.vx_flat.specs.declared.schema.Width.TheVariants.{One, Eight}
use Rattle.vx_flat.specs.Building.{entry_links, links_of}
use Rattle.vx_flat.specs.IsOf.{AreOf, IsOf, IsOfKind}
use Rattle.vx_flat.specs.Pieces.{Piece, default_entry, field_entries, entries, field_pieces, table_piece, table_pieces}
use Rattle.vx_flat.specs.Schema.{Schema}
use Rattle.vx_flat.specs.Value.{Field, absent, number, elements, text, texts, table, tables, member, unknown}
use Rattle.vx_proto.specs.Parts.{flag_number}
use Rattle.vx_scalars.specs.Stats.{Told, Stats}
use Rattle.vx_scalars.specs.declared.precision.Precision.TheVariants.{Exact, Inexact, Absent}
use Rattle.vx_scalar_wire.specs.StatsBlocks.{stored_field, IsStoredOf, vector_entry, number_entry, flag_entry, count_entry, table_entries, vector_pieces, vector_links}
use Rattle.vx_scalar_wire.specs.StatsSchema.{stats_fields, stats_schema}
use Rattle.vx_scalars.specs.WrittenStats.{written_sum, exact_flag, exact_count}
use Rattle.vx_scalar_wire.specs.StatsTable.{value_bytes, value_field, precision_of, number_field, flag_field, count_bits, count_field, stats_table, stats_pieces}
use Rattle.vx_scalar_wire.specs.declared.stats.entries.Stored.{Stored}

-- ---- entries

vector_of : (f : Field) → field_entries (Vector One) f ≡ vector_entry f ∷ []
vector_of absent = refl
vector_of (number n) = refl
vector_of (elements bs) = refl
vector_of (text bs) = refl
vector_of (texts ss) = refl
vector_of (table vs) = refl
vector_of (tables rs) = refl
vector_of (member g vs) = refl
vector_of (unknown g) = refl

flag_of : (o : Option ℕ) → field_entries OptFlag (number_field o) ≡ number_entry 1 o ∷ []
flag_of None = refl
flag_of (Some n) = refl

count_of : (o : Option ℕ) → field_entries (OptNumber Eight) (number_field o) ≡ number_entry 8 o ∷ []
count_of None = refl
count_of (Some n) = refl

stored_as : (o : Option (List ℕ)) (f : Field) → stored_field o ≡ f → vector_entry (stored_field o) ∷ [] ≡ field_entries (Vector One) f
stored_as o f e = ap (λ (z : Field). vector_entry z ∷ []) e ∙ sym (vector_of f)

flag_as : (x : Told) → flag_entry x ∷ [] ≡ field_entries OptFlag (flag_field x)
flag_as x = sym (flag_of (option_map flag_number (exact_flag x)))

count_as : (x : Told) → count_entry x ∷ [] ≡ field_entries (OptNumber Eight) (count_field x)
count_as x = sym (count_of (option_map count_bits (exact_count x)))

-- The entries are those of the table.
pub same_entries : (t : Stats) (x : Stored) → IsStoredOf t x → table_entries t x ≡ entries stats_fields (stats_table t)
same_entries t x h = λ i.
    stored_as x.least (value_field t.least) h.least i ++ (default_entry 1 (precision_of t.least) ∷ (stored_as x.greatest (value_field t.greatest) h.greatest i
    ++ (default_entry 1 (precision_of t.greatest) ∷ (stored_as x.sum (value_field (written_sum t.total)) h.sum i
    ++ (flag_as t.is_sorted i ++ (flag_as t.is_strict_sorted i ++ (flag_as t.is_constant i
    ++ (count_as t.null_count i ++ (count_as t.uncompressed_size i ++ (count_as t.nan_count i ++ []))))))))))

-- ---- links

vector_link : (n i : ℕ) (o : Option (List ℕ)) (es : List BlockField) → entry_links n i (vector_entry (stored_field o) ∷ es) ≡ vector_links n i o ++ entry_links n (i + 1) es
vector_link n i None es = refl
vector_link n i (Some bytes) es = refl

number_link : (n i w : ℕ) (o : Option ℕ) (es : List BlockField) → entry_links n i (number_entry w o ∷ es) ≡ entry_links n (i + 1) es
number_link n i w None es = refl
number_link n i w (Some m) es = refl

precision_link : (n i : ℕ) (x : Told) (es : List BlockField) → entry_links n i (default_entry 1 (precision_of x) ∷ es) ≡ entry_links n (i + 1) es
precision_link n i (Exact v) es = refl
precision_link n i (Inexact v) es = refl
precision_link n i Absent es = refl

-- Those of the flags and counts are none.
later_links : (n : ℕ) (t : Stats)
    → entry_links n 5 (flag_entry t.is_sorted ∷ flag_entry t.is_strict_sorted ∷ flag_entry t.is_constant ∷ count_entry t.null_count ∷ count_entry t.uncompressed_size ∷ count_entry t.nan_count ∷ []) ≡ []
later_links n t =
    number_link n 5 1 (option_map flag_number (exact_flag t.is_sorted)) _ ∙ (number_link n 6 1 (option_map flag_number (exact_flag t.is_strict_sorted)) _
    ∙ (number_link n 7 1 (option_map flag_number (exact_flag t.is_constant)) _ ∙ (number_link n 8 8 (option_map count_bits (exact_count t.null_count)) _
    ∙ (number_link n 9 8 (option_map count_bits (exact_count t.uncompressed_size)) _ ∙ number_link n 10 8 (option_map count_bits (exact_count t.nan_count)) []))))

-- The links are those to the three vectors.
pub same_links : (n : ℕ) (t : Stats) (x : Stored)
    → links_of n (table_piece (table_entries t x)) ≡ vector_links n 0 x.least ++ (vector_links n 2 x.greatest ++ (vector_links n 4 x.sum ++ []))
same_links n t x =
    vector_link n 0 x.least _ ∙ ap (λ ls. vector_links n 0 x.least ++ ls)
    (precision_link n 1 t.least _ ∙ (vector_link n 2 x.greatest _ ∙ ap (λ ls. vector_links n 2 x.greatest ++ ls)
    (precision_link n 3 t.greatest _ ∙ (vector_link n 4 x.sum _ ∙ ap (λ ls. vector_links n 4 x.sum ++ ls) (later_links n t)))))

-- ---- blocks

vector_piece : (o : Option (List ℕ)) → vector_pieces o ≡ field_pieces stats_schema (Vector One) (stored_field o)
vector_piece None = refl
vector_piece (Some bytes) = refl

piece_as : (o : Option (List ℕ)) (f : Field) → stored_field o ≡ f → vector_pieces o ≡ field_pieces stats_schema (Vector One) f
piece_as o f e = vector_piece o ∙ ap (λ (z : Field). field_pieces stats_schema (Vector One) z) e

-- The blocks are the table's, then the three vectors.
pub same_pieces : (t : Stats) (x : Stored) → IsStoredOf t x
    → table_piece (table_entries t x) ∷ (vector_pieces x.least ++ (vector_pieces x.greatest ++ (vector_pieces x.sum ++ []))) ≡ stats_pieces t
same_pieces t x h = λ i.
    table_piece (same_entries t x h i) ∷ (piece_as x.least (value_field t.least) h.least i ++ (piece_as x.greatest (value_field t.greatest) h.greatest i
    ++ (piece_as x.sum (value_field (written_sum t.total)) h.sum i ++ [])))

-- In whichever order they are put together.
pub regrouped : (a b c : List Piece) → (a ++ b) ++ c ≡ a ++ (b ++ (c ++ []))
regrouped a b c = append_assoc a b c ∙ ap (λ (x : List Piece). a ++ (b ++ x)) (sym (append-nil c))

-- ---- of the schema

bytes_kind : (bs : List ℕ) → IsOfKind stats_schema (Vector One) (elements bs)
bytes_kind bs = (length bs, omega arith)

vector_kind : (x : Told) → IsOfKind stats_schema (Vector One) (value_field x)
vector_kind (Exact v) = bytes_kind (value_bytes v)
vector_kind (Inexact v) = bytes_kind (value_bytes v)
vector_kind Absent = tt

precision_kind : (x : Told) → IsOfKind stats_schema (Number One) (number (precision_of x))
precision_kind (Exact v) = omega arith
precision_kind (Inexact v) = omega arith
precision_kind Absent = omega arith

flag_kind : (o : Option Bool) → IsOfKind stats_schema OptFlag (number_field (option_map flag_number o))
flag_kind None = tt
flag_kind (Some true) = omega arith
flag_kind (Some false) = omega arith

count_kind : (o : Option ℕ) → IsOfKind stats_schema (OptNumber Eight) (number_field (option_map count_bits o))
count_kind None = tt
count_kind (Some n) = mod_below n (2 ^ 64) (omega arith)

-- The table is one of the schema's.
pub table_of_kind : (t : Stats) → IsOf stats_schema (stats_table t)
table_of_kind t = (
  vector_kind t.least,
  (
    precision_kind t.least,
    (
      vector_kind t.greatest,
      (
        precision_kind t.greatest,
        (
          vector_kind (written_sum t.total),
          (
            flag_kind (exact_flag t.is_sorted),
            (
              flag_kind (exact_flag t.is_strict_sorted),
              (flag_kind (exact_flag t.is_constant), (count_kind (exact_count t.null_count), (count_kind (exact_count t.uncompressed_size), (count_kind (exact_count t.nan_count), tt)))),
            ),
          ),
        ),
      ),
    ),
  ),
)

-- ---- in other schemas

vector_any : (s : Schema) (f : Field) → field_pieces s (Vector One) f ≡ field_pieces stats_schema (Vector One) f
vector_any s absent = refl
vector_any s (number n) = refl
vector_any s (elements bs) = refl
vector_any s (text bs) = refl
vector_any s (texts ss) = refl
vector_any s (table vs) = refl
vector_any s (tables rs) = refl
vector_any s (member g vs) = refl
vector_any s (unknown g) = refl

-- A table of statistics has the same blocks in every schema,
pub pieces_any : (s : Schema) (t : Stats) → table_pieces s stats_fields (stats_table t) ≡ stats_pieces t
pieces_any s t = λ i.
    table_piece (entries stats_fields (stats_table t)) ∷ (vector_any s (value_field t.least) i ++ (vector_any s (value_field t.greatest) i
    ++ (vector_any s (value_field (written_sum t.total)) i ++ [])))

vector_kind_any : (s : Schema) (f : Field) → IsOfKind stats_schema (Vector One) f → IsOfKind s (Vector One) f
vector_kind_any s absent h = tt
vector_kind_any s (elements bs) h = h
vector_kind_any s _ h = absurd h

flag_kind_any : (s : Schema) (o : Option ℕ) → IsOfKind stats_schema OptFlag (number_field o) → IsOfKind s OptFlag (number_field o)
flag_kind_any s None h = tt
flag_kind_any s (Some n) h = h

count_kind_any : (s : Schema) (o : Option ℕ) → IsOfKind stats_schema (OptNumber Eight) (number_field o) → IsOfKind s (OptNumber Eight) (number_field o)
count_kind_any s None h = tt
count_kind_any s (Some n) h = h

-- and is of its kind there.
pub of_any : (s : Schema) (t : Stats) → AreOf s stats_fields (stats_table t)
of_any s t =
    let h : IsOf stats_schema (stats_table t) = table_of_kind t in
    let flag : Told → Option ℕ = λ x. option_map flag_number (exact_flag x) in
    let count : Told → Option ℕ = λ x. option_map count_bits (exact_count x) in (
      vector_kind_any s (value_field t.least) h.0,
      (
        h.1.0,
        (
          vector_kind_any s (value_field t.greatest) h.1.1.0,
          (
            h.1.1.1.0,
            (
              vector_kind_any s (value_field (written_sum t.total)) h.1.1.1.1.0,
              (
                flag_kind_any s (flag t.is_sorted) h.1.1.1.1.1.0,
                (
                  flag_kind_any s (flag t.is_strict_sorted) h.1.1.1.1.1.1.0,
                  (
                    flag_kind_any s (flag t.is_constant) h.1.1.1.1.1.1.1.0,
                    (
                      count_kind_any s (count t.null_count) h.1.1.1.1.1.1.1.1.0,
                      (
                        count_kind_any s (count t.uncompressed_size) h.1.1.1.1.1.1.1.1.1.0,
                        (count_kind_any s (count t.nan_count) h.1.1.1.1.1.1.1.1.1.1.0, tt),
                      ),
                    ),
                  ),
                ),
              ),
            ),
          ),
        ),
      ),
    )
