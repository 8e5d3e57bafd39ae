-- What a call that loads one column answers.
use Rattle.std.proofs.Common.{ℕ, ◌≡◌, ◌+◌, ◌≤◌, List, Option, Some, length, refl, sym, ap, ◌∙◌, subst}
use Rattle.std.specs.Prelude.{slice_get, false}
use Rattle.std.specs.List.{AllByRecursion}
use Rattle.vx_flat.specs.Limits.{limits_to}
use Rattle.vx_types.specs.Typ.{Typ}
use Rattle.vx_array_tree.specs.Tree.{Tree}
use Rattle.vx_wire_tree.specs.Session.{SessionMeaning, IsShipped}
use Rattle.vx_serialized.specs.Carried.{RefusesBlob}
use Rattle.vx_serialized.specs.Refusals.{wire_error}
use Rattle.vx_serialized.specs.declared.error.WireError.{WireError}
use Rattle.vx_serialized.specs.declared.error.WireError.TheVariants.{OutOfMemory}
use Rattle.vx_serialized.specs.declared.refusal.BlobRefusal.{BlobRefusal}
use Rattle.vx_serialized.specs.declared.refusal.BlobRefusal.TheVariants as refusal
use Rattle.vx_file.specs.declared.error.FileError.TheVariants.{BadColumn}
use Rattle.vx_file.specs.Causes.{RefusesColumn}
use Rattle.vx_file.specs.Footer.{FileRange}
use Rattle.vx_file.specs.Ranges.{RangesState, HasTaken, Tells}
use Rattle.vx_file.specs.Selecting.{StandAt, EndsWithin, EndWithin, part_of, len_of}
use Rattle.vx_file.specs.Shows.{File, FileShows, IsTableType, field_types}
use Rattle.vx_file.specs.Spells.{SpellsColumn, FileSpells}
use Rattle.vx_file.specs.Tables.{columns_of}
use Rattle.vx_file.proofs.ColumnsAt.{column_at, holds_at}
use Rattle.vx_file.proofs.Decoded.{column_as, blob_refused}
use Rattle.vx_file.proofs.Taking.{taken_as}

-- A blob's refusal is no failed allocation.
pub never_memory : (r : BlobRefusal) → wire_error r ≡ OutOfMemory → ⊥
never_memory refusal.TooShort e = cc
never_memory refusal.BadTable e = cc
never_memory refusal.TableLimit e = cc
never_memory refusal.BadAlignment e = cc
never_memory refusal.Compressed e = cc
never_memory refusal.OutOfBounds e = cc
never_memory refusal.UnknownIndex e = cc
never_memory refusal.UnknownEncoding e = cc
never_memory refusal.BadMetadata e = cc
never_memory refusal.BadShape e = cc
never_memory refusal.BadContent e = cc
never_memory refusal.ForeignControl e = cc
never_memory refusal.BadStats e = cc
never_memory refusal.NotPermitted e = cc
never_memory refusal.WireLimit e = cc
never_memory refusal.NotRegistered e = cc
never_memory refusal.NotSerializable e = cc
never_memory refusal.UndeclaredId e = cc
never_memory refusal.PluginRefused e = cc

-- A column's range ends within the file.
pub range_ends : (size start : ℕ) (rs : List FileRange) (i : ℕ) (r : FileRange) → EndWithin size start rs → slice_get rs i ≡ Some r → start + (r.start + r.len) ≤ size
range_ends size start rs i r ends e = holds_at (EndsWithin size start) rs i r ends e

-- The bytes of the range at a place were loaded.
pub taken_at : (rs : List FileRange) (i : ℕ) (r : FileRange) (x y : RangesState) → slice_get rs i ≡ Some r → HasTaken r.len x y → HasTaken (len_of (slice_get rs i)) x y
taken_at rs i r x y e h = taken_as r.len (len_of (slice_get rs i)) x y (sym (ap (λ o. len_of o) e)) h

module _ (s : SessionMeaning) (file : File) (start i : ℕ) (r : FileRange) (d : Typ) (ids : List (List ℕ)) (n : ℕ) (range_is : slice_get file.ranges i ≡ Some r)
    (type_is : (fields : List Typ) → field_types file.dtype ≡ Some fields → slice_get fields i ≡ Some d) (ids_are : ids ≡ file.ids) (rows_are : n ≡ file.rows) (before : RangesState) (blob : List ℕ)
    (blob_is : (bytes : List ℕ) → Tells before bytes → blob ≡ part_of bytes (start + r.start) r.len) where
  -- The blob spells the table's column.
  pub record IsOneColumn (t : Tree) : Type 0 where
    pub tree : Tree
    pub tree_is : slice_get (columns_of t) i ≡ Some tree
    pub spelled : SpellsColumn blob ids d n s tree

  pub one_column : (bytes own : List ℕ) (t : Tree) → Tells before bytes → StandAt bytes start own → FileShows own file → FileSpells own s t → IsOneColumn t
  one_column bytes own t tells stand shows spells =
      let at = column_at s file bytes own start t stand shows spells i r d range_is type_is in
      let P : List (List ℕ) → Type 0 = λ z. SpellsColumn blob z d file.rows s at.tree in
      let Q : ℕ → Type 0 = λ m. SpellsColumn blob ids d m s at.tree in
      record {
        tree = at.tree;
        tree_is = at.tree_is;
        spelled = subst Q (sym rows_are) (subst P (sym ids_are)
            (column_as blob (part_of bytes (start + r.start) r.len) (blob_is bytes tells) file.ids d file.rows s at.tree at.spelled));
      }

  -- The array that is decoded is that column.
  pub column_picked : (array : Tree) → (IsShipped s → (t : Tree) → SpellsColumn blob ids d n s t → array ≡ t)
      → IsShipped s → (bytes own : List ℕ) (t : Tree) → Tells before bytes → StandAt bytes start own → FileShows own file → FileSpells own s t → slice_get (columns_of t) i ≡ Some array
  column_picked array decoded ok bytes own t tells stand shows spells =
      let one = one_column bytes own t tells stand shows spells in
      one.tree_is ∙ ap (λ z. Some z) (sym (decoded ok one.tree one.spelled))

  -- It is refused for want of memory alone.
  pub never_bad : (e : WireError) (q : BlobRefusal) → wire_error q ≡ e → (IsShipped s → (t : Tree) → SpellsColumn blob ids d n s t → e ≡ OutOfMemory)
      → IsShipped s → (bytes own : List ℕ) (t : Tree) → Tells before bytes → StandAt bytes start own → FileShows own file → FileSpells own s t → ⊥
  never_bad e q same refused ok bytes own t tells stand shows spells =
      let one = one_column bytes own t tells stand shows spells in
      never_memory q (same ∙ refused ok one.tree one.spelled)

  -- A refusal of the blob has its cause.
  pub bad_column : (e : WireError) (q : BlobRefusal) (after : RangesState) → IsTableType (length file.ranges) file.dtype → wire_error q ≡ e → RefusesBlob (limits_to false) s e blob ids d n
      → RefusesColumn s file start i before after (BadColumn i q)
  bad_column e q after table same refused = (
    refl,
    λ bytes tells.
        let P : WireError → Type 0 = λ z. RefusesBlob (limits_to false) s z (part_of bytes (start + r.start) r.len) file.ids d file.rows in
        let Q : List (List ℕ) → Type 0 = λ z. RefusesBlob (limits_to false) s e (part_of bytes (start + r.start) r.len) z d file.rows in
        let R : ℕ → Type 0 = λ m. RefusesBlob (limits_to false) s e (part_of bytes (start + r.start) r.len) ids d m in
        record {
          range = r;
          range_is = range_is;
          fields = table.fields;
          fields_are = table.fields_are;
          dtype = d;
          dtype_is = type_is table.fields table.fields_are;
          refused = subst P (sym same) (subst Q ids_are (subst R rows_are
              (blob_refused blob (part_of bytes (start + r.start) r.len) (blob_is bytes tells) ids d n s e refused)));
        },
  )
