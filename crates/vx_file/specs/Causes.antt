-- Why a column file is not written or not read: by the refusal.
use Rattle.std.specs.Prelude.{ℕ, ◌≡◌, ◌≤◌, ◌⊎◌, ◌+◌, ◌^◌, false, List, [], ◌∷◌, Some, length, slice_get, Contains}
use Rattle.vx_trees.specs.Rose.{label}
use Rattle.vx_flat.specs.Building.{nothing_built}
use Rattle.vx_flat.specs.Limits.{limits_to}
use Rattle.vx_types.specs.Known.{ExtMeaning}
use Rattle.vx_types.specs.Typ.{Typ}
use Rattle.vx_type_wire.specs.Written.{RefusesWritingTypeTable}
use Rattle.vx_type_wire.specs.declared.error.TypeWireError.TheVariants as types
use Rattle.vx_array_tree.specs.Tree.{Tree}
use Rattle.vx_wire_tree.specs.Context.{Context}
use Rattle.vx_wire_tree.specs.Session.{SessionMeaning}
use Rattle.vx_serialized.specs.Carried.{RefusesBlob}
use Rattle.vx_serialized.specs.Refusals.{wire_error}
use Rattle.vx_serialized.specs.declared.error.WireError.{WireError}
use Rattle.vx_serde.specs.Causes.{RefusesArray}
use Rattle.vx_file.specs.declared.error.FileError.{FileError}
use Rattle.vx_file.specs.declared.error.FileError.TheVariants.{OutOfMemory, StoreFault, NotAFile, BadType, NoColumn, BadColumn, NotAStruct, TooLong, Wire}
use Rattle.vx_file.specs.Footer.{Footer, FileRange, footer_form}
use Rattle.vx_file.specs.Ranges.{RangesState, HasRisen, Tells}
use Rattle.vx_file.specs.Selecting.{part_of}
use Rattle.vx_file.specs.Shows.{File, IsColumnFile, ReadsNoTable, field_types}
use Rattle.vx_file.specs.Tables.{IsNoTable, columns_of}
use Rattle.vx_file.specs.Written.{options_at, column_blob, context_after, first_context, written_footer}

-- ---- writing

-- Why one column is not written at an offset and under a context: by the refusal. Allocation failure has no other cause.
abbrev pub RefusesWritingColumn : SessionMeaning → Tree → ℕ → Context → FileError → Type 0
RefusesWritingColumn s t offset ctx OutOfMemory = Unit {0}
RefusesWritingColumn s t offset ctx (Wire e) = RefusesArray s t ctx (options_at offset) (wire_error e)
RefusesWritingColumn s t offset ctx _ = ⊥

-- One of several columns is not written, at its offset and under the context that those before it have grown.
abbrev pub RefusesColumns : SessionMeaning → WireError → List Tree → ℕ → Context → Type 0
RefusesColumns s e [] offset ctx = ⊥
RefusesColumns s e (t ∷ ts) offset ctx =
    RefusesArray s t ctx (options_at offset) e
    ⊎ RefusesColumns s e ts (offset + length (column_blob s t offset ctx)) (context_after s t offset ctx)

-- The footer has 2^32 bytes or more, as it has where a count or a length in it passes four bytes; or the type is not written
-- as a table.
abbrev pub IsTooLong : SessionMeaning → Tree → Type 0
IsTooLong s t =
    (2 ^ 32 ≤ length (footer_form.write (written_footer s t)))
    ⊎ RefusesWritingTypeTable (label t).dtype nothing_built types.WireLimit

-- Why a type is not written in a footer: by the refusal. It has no message.
abbrev pub RefusesWritingType : Typ → FileError → Type 0
RefusesWritingType d OutOfMemory = Unit {0}
RefusesWritingType d TooLong = RefusesWritingTypeTable d nothing_built types.WireLimit
RefusesWritingType d _ = ⊥

-- Why a table is not written: by the refusal. Allocation failure has no other cause.
abbrev pub RefusesWritingFile : SessionMeaning → Tree → FileError → Type 0
RefusesWritingFile s t OutOfMemory = Unit {0}
RefusesWritingFile s t NotAStruct = IsNoTable t
RefusesWritingFile s t TooLong = IsTooLong s t
RefusesWritingFile s t (Wire e) = RefusesColumns s (wire_error e) (columns_of t) 4 first_context
RefusesWritingFile s t _ = ⊥

-- ---- loading

-- Bytes have the form of a column file, and no type of tables with so many columns is read of the message in its footer.
pub record HasBadType (x : ExtMeaning) (bytes : List ℕ) : Type 0 where
  pub footer : Footer
  pub offset : ℕ
  pub form : IsColumnFile bytes footer offset
  pub none : ReadsNoTable x footer.type_message (length footer.ranges)

-- Bytes have no form of a column file.
abbrev pub HasNoForm : List ℕ → Type 0
HasNoForm bytes = (footer : Footer) (offset : ℕ) → IsColumnFile bytes footer offset → ⊥

-- Why a file is not loaded: by the refusal. What is said of its bytes is said where the bytes are told of which they are a
-- part.
abbrev pub RefusesLoading : ExtMeaning → (List ℕ → List ℕ) → RangesState → RangesState → FileError → Type 0
RefusesLoading x own before after OutOfMemory = Unit {0}
RefusesLoading x own before after StoreFault = HasRisen before.faults after.faults
RefusesLoading x own before after NotAFile = (bytes : List ℕ) → Tells before bytes → HasNoForm (own bytes)
RefusesLoading x own before after BadType = (bytes : List ℕ) → Tells before bytes → HasBadType x (own bytes)
RefusesLoading x own before after _ = ⊥

-- ---- selecting

-- The blob of a column of a file that starts at an offset is not read at the type of its field and as so many rows.
pub record IsBadColumn (s : SessionMeaning) (e : WireError) (bytes : List ℕ) (start : ℕ) (file : File) (i : ℕ) : Type 0 where
  pub range : FileRange
  pub range_is : slice_get file.ranges i ≡ Some range
  pub fields : List Typ
  pub fields_are : field_types file.dtype ≡ Some fields
  pub dtype : Typ
  pub dtype_is : slice_get fields i ≡ Some dtype
  pub refused : RefusesBlob (limits_to false) s e (part_of bytes (start + range.start) range.len) file.ids dtype file.rows

-- Why one column of a file is not loaded: by the refusal.
abbrev pub RefusesColumn : SessionMeaning → File → ℕ → ℕ → RangesState → RangesState → FileError → Type 0
RefusesColumn s file start column before after OutOfMemory = Unit {0}
RefusesColumn s file start column before after StoreFault = HasRisen before.faults after.faults
RefusesColumn s file start column before after (NoColumn i) = (i ≡ column) × (length file.ranges ≤ column)
RefusesColumn s file start column before after (BadColumn i e) =
    (i ≡ column) × ((bytes : List ℕ) → Tells before bytes → IsBadColumn s (wire_error e) bytes start file column)
RefusesColumn s file start column before after _ = ⊥

-- Why columns of a file are not selected: by the refusal. A column is asked that is not there, or the blob of one that is
-- asked is refused.
abbrev pub RefusesSelecting : SessionMeaning → File → ℕ → List ℕ → RangesState → RangesState → FileError → Type 0
RefusesSelecting s file start asked before after OutOfMemory = Unit {0}
RefusesSelecting s file start asked before after StoreFault = HasRisen before.faults after.faults
RefusesSelecting s file start asked before after (NoColumn i) = Contains asked i × (length file.ranges ≤ i)
RefusesSelecting s file start asked before after (BadColumn i e) =
    Contains asked i × ((bytes : List ℕ) → Tells before bytes → IsBadColumn s (wire_error e) bytes start file i)
RefusesSelecting s file start asked before after _ = ⊥

-- An allocation failed, or a load did.
abbrev pub IsMemoryOrFault : FileError → RangesState → RangesState → Type 0
IsMemoryOrFault OutOfMemory before after = Unit {0}
IsMemoryOrFault StoreFault before after = HasRisen before.faults after.faults
IsMemoryOrFault _ before after = ⊥
