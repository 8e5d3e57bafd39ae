-- The blocks of a table of statistics, and how far a builder is with them.
use Rattle.std.specs.Prelude.{◌≡◌, ◌++◌, ℕ, List, [], ◌∷◌, Option, Some, None, option_map}
use Rattle.vx_flat.specs.declared.builder.piece.BlockField.{BlockField}
use Rattle.vx_flat.specs.declared.builder.piece.BlockField.TheVariants as entry
use Rattle.vx_flat.specs.declared.builder.piece.LinkKind.TheVariants as link
use Rattle.vx_flat.specs.Building.{Built, Link, IsPartWay}
use Rattle.vx_flat.specs.Pieces.{Piece, elements_piece, default_entry}
use Rattle.vx_flat.specs.Value.{Field, absent, elements}
use Rattle.vx_proto.specs.Parts.{flag_number}
use Rattle.vx_scalars.specs.Stats.{Told, Stats}
use Rattle.vx_scalars.specs.WrittenStats.{exact_flag, exact_count, written_sum}
use Rattle.vx_scalar_wire.specs.StatsTable.{value_field, precision_of, count_bits}
use Rattle.vx_scalar_wire.specs.declared.stats.entries.Stored.{Stored}

-- ---- entries

-- Optional bytes, as a field.
abbrev pub stored_field : Option (List ℕ) → Field
stored_field None = absent
stored_field (Some bytes) = elements bytes

-- What is stored are the values of the set that are written.
pub record IsStoredOf (t : Stats) (x : Stored) : Type 0 where
  pub least : stored_field x.least ≡ value_field t.least
  pub greatest : stored_field x.greatest ≡ value_field t.greatest
  pub sum : stored_field x.sum ≡ value_field (written_sum t.total)

-- The entries of a vector and of a number that may stand, a flag's and a count's.
abbrev pub vector_entry : Field → BlockField
vector_entry absent = entry.Absent
vector_entry _ = entry.Link link.Vector

abbrev pub number_entry : ℕ → Option ℕ → BlockField
number_entry w None = entry.Absent
number_entry w (Some n) = entry.Number w n

abbrev pub flag_entry : Told → BlockField
flag_entry x = number_entry 1 (option_map flag_number (exact_flag x))

abbrev pub count_entry : Told → BlockField
count_entry x = number_entry 8 (option_map count_bits (exact_count x))

-- The entries of the table of a set, whose values are stored so.
abbrev pub table_entries : Stats → Stored → List BlockField
table_entries t x =
    vector_entry (stored_field x.least) ∷ default_entry 1 (precision_of t.least) ∷ vector_entry (stored_field x.greatest) ∷ default_entry 1 (precision_of t.greatest)
    ∷ vector_entry (stored_field x.sum) ∷ flag_entry t.is_sorted ∷ flag_entry t.is_strict_sorted ∷ flag_entry t.is_constant
    ∷ count_entry t.null_count ∷ count_entry t.uncompressed_size ∷ count_entry t.nan_count ∷ []

-- ---- blocks

-- The block of bytes that may stand, and the link to it.
abbrev pub vector_pieces : Option (List ℕ) → List Piece
vector_pieces None = []
vector_pieces (Some bytes) = elements_piece 1 bytes ∷ []

abbrev pub vector_links : ℕ → ℕ → Option (List ℕ) → List Link
vector_links block index None = []
vector_links block index (Some bytes) = record { block = block; index = index; kind = link.Vector } ∷ []

-- A block was written, and the link to bytes that may stand is the next that is left of it.
pub record IsAtLink (block index : ℕ) (bytes : Option (List ℕ)) (now : Built) : Type 0 where
  pub begun : Built
  pub first : Piece
  pub later : List Link
  pub before : List Piece
  pub way : IsPartWay begun first (vector_links block index bytes ++ later) before now
