-- What the bytes of a column file show.
use Rattle.std.specs.Prelude.{ℕ, ◌≡◌, ◌+◌, ◌≤◌, List, Option, Some, None, length}
use Rattle.std.specs.Prelude.{refl}
use Rattle.std.specs.Coded.{Coded, code_by, coded×, coded_ℕ, coded_list}
use Rattle.std.specs.List.{AllByRecursion}
use Rattle.vx_forms.specs.Frame.{IsFramed}
use Rattle.vx_trees.specs.Rose.{node, roses_list}
use Rattle.vx_types.specs.Kind.{structure}
use Rattle.vx_types.specs.Typ.{Typ, typ_code}
use Rattle.vx_types.specs.declared.nullability.Nullability.TheVariants.{NonNullable}
use Rattle.vx_type_wire.specs.Known.{ExtMeaning, IsRead}
use Rattle.vx_type_wire.specs.Shown.{ShowsType}
use Rattle.vx_file.specs.Footer.{Footer, FileRange, footer_form, file_word}

-- What a column file holds beside its blobs: how many rows there are, where each column's blob stands, the identifiers that
-- the blobs' nodes name by number, and the type of the rows.
pub record File : Type 0 where
  pub rows : ℕ
  pub ranges : List FileRange
  pub ids : List (List ℕ)
  pub dtype : Typ

-- A range starts after the first word and ends at or before an offset. Ranges may overlap.
pub record IsWithin (offset : ℕ) (r : FileRange) : Type 0 where
  pub start : 4 ≤ r.start
  pub «end» : r.start + r.len ≤ offset

-- Bytes have the form of a column file with this footer, which begins at an offset: each range lies between the first word
-- and the footer.
pub record IsColumnFile (bytes : List ℕ) (footer : Footer) (offset : ℕ) : Type 0 where
  pub framed : IsFramed file_word footer_form bytes footer offset
  pub within : AllByRecursion (IsWithin offset) footer.ranges

-- The footer of what a file holds, with a message of its type.
abbrev pub footer_with : File → List ℕ → Footer
footer_with file message = record { rows = file.rows; ranges = file.ranges; ids = file.ids; type_message = message }

-- Bytes show what a column file holds: they have its form, and the message in the footer shows its type.
pub record FileShows (bytes : List ℕ) (file : File) : Type 0 where
  pub message : List ℕ
  pub offset : ℕ
  pub form : IsColumnFile bytes (footer_with file message) offset
  pub dtype : ShowsType message file.dtype

-- The types of a type's fields, where it is a structure's of which no row is null.
abbrev pub field_types : Typ → Option (List Typ)
field_types (node (structure ns NonNullable) ts) = Some (roses_list ts)
field_types _ = None

-- A type is that of tables of so many columns: a structure of so many fields, of which no row is null.
pub record IsTableType (columns : ℕ) (d : Typ) : Type 0 where
  pub fields : List Typ
  pub fields_are : field_types d ≡ Some fields
  pub count : length fields ≡ columns

-- No type of tables of so many columns is read of a message, under these readers of extensions.
abbrev pub ReadsNoTable : ExtMeaning → List ℕ → ℕ → Type 0
ReadsNoTable x message columns = (d : Typ) → IsRead (ShowsType message) x d → IsTableType columns d → ⊥

-- ---- how it is stored, where a struct has it as its model

-- A range is stored as its start and its length,
abbrev range_code : Coded FileRange
range_code = code_by (ℕ × ℕ) (coded× coded_ℕ coded_ℕ) (λ r. (r.start, r.len)) (λ p. record { start = p.0; len = p.1 }) (λ _. refl)

-- and what a file holds as its parts.
abbrev pub file_code : Coded File
file_code =
    code_by (ℕ × (List FileRange × (List (List ℕ) × Typ))) (coded× coded_ℕ (coded× (coded_list range_code) (coded× (coded_list (coded_list coded_ℕ)) typ_code)))
    (λ f. (f.rows, (f.ranges, (f.ids, f.dtype)))) (λ p. record { rows = p.0; ranges = p.1.0; ids = p.1.1.0; dtype = p.1.1.1 }) (λ _. refl)
