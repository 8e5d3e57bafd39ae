-- Which table the bytes of a column file spell.
use Rattle.std.specs.Prelude.{ℕ, ◌≡◌, false, List, [], ◌∷◌, Some}
use Rattle.vx_flat.specs.Limits.{limits_to}
use Rattle.vx_types.specs.Typ.{Typ}
use Rattle.vx_types.specs.Known.{IsKnown}
use Rattle.vx_array_tree.specs.Tree.{Tree}
use Rattle.vx_wire_tree.specs.Session.{SessionMeaning}
use Rattle.vx_serialized.specs.Carried.{IsWithinLimits}
use Rattle.vx_serde.specs.Spells.{Spells}
use Rattle.vx_file.specs.Footer.{FileRange}
use Rattle.vx_file.specs.Selecting.{bytes_in}
use Rattle.vx_file.specs.Shows.{File, FileShows, field_types}
use Rattle.vx_file.specs.Tables.{IsTable}

-- A blob keeps the limits on reading, without deep trees, and spells a column at its type and length, with the file's
-- identifiers.
pub record SpellsColumn (blob : List ℕ) (ids : List (List ℕ)) (d : Typ) (n : ℕ) (s : SessionMeaning) (column : Tree) : Type 0 where
  pub within_limits : IsWithinLimits (limits_to false) blob
  pub spelled : Spells blob ids d n s column

-- Each range's bytes spell the column in its place, at the type in its place. There are as many of each.
abbrev pub SpellColumns : List ℕ → List (List ℕ) → ℕ → SessionMeaning → List FileRange → List Typ → List Tree → Type 0
SpellColumns bytes ids n s [] [] [] = Unit {0}
SpellColumns bytes ids n s (r ∷ rs) (d ∷ ds) (t ∷ ts) = SpellsColumn (bytes_in bytes r) ids d n s t × SpellColumns bytes ids n s rs ds ts
SpellColumns bytes ids n s _ _ _ = ⊥

-- The columns of a file of these contents: its type is one of structures of which no row is null, and each range's bytes spell
-- the column of its field.
pub record HasColumns (bytes : List ℕ) (file : File) (s : SessionMeaning) (columns : List Tree) : Type 0 where
  pub fields : List Typ
  pub fields_are : field_types file.dtype ≡ Some fields
  pub spelled : SpellColumns bytes file.ids file.rows s file.ranges fields columns

-- Bytes spell a table: they show a file of a type that the session knows, and their ranges spell the table's columns.
pub record FileSpells (bytes : List ℕ) (s : SessionMeaning) (t : Tree) : Type 0 where
  pub file : File
  pub shows : FileShows bytes file
  pub known : IsKnown s.ext file.dtype
  pub columns : List Tree
  pub has_columns : HasColumns bytes file s columns
  pub table : IsTable t file.dtype file.rows columns
