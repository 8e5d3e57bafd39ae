-- The column of a table that stands at a place, and its blob in the bytes of a file.
use Rattle.std.proofs.Common.{ℕ, zero, suc, ◌≡◌, ◌+◌, ◌≤◌, ◌<◌, List, [], ◌∷◌, ◌++◌, Option, Some, None, length, refl, sym, ap, ◌∙◌, subst, arith, length-append}
use Rattle.std.specs.Prelude.{slice_get}
use Rattle.std.specs.List.{AllByRecursion}
use Rattle.vx_forms.specs.Frame.{IsFile}
use Rattle.vx_trees.specs.Rose.{below, roses_list}
use Rattle.vx_trees.proofs.Lists.{roses_list-roses_of}
use Rattle.vx_types.specs.Typ.{Typ}
use Rattle.vx_array_tree.specs.Tree.{Tree, Trees}
use Rattle.vx_wire_tree.specs.Session.{SessionMeaning}
use Rattle.vx_file.specs.Footer.{FileRange, file_word}
use Rattle.vx_file.specs.Selecting.{StandAt, part_of, bytes_in}
use Rattle.vx_file.specs.Shows.{File, FileShows, IsWithin, IsColumnFile, field_types}
use Rattle.vx_file.specs.Spells.{SpellsColumn, SpellColumns, HasColumns, FileSpells}
use Rattle.vx_file.specs.Tables.{columns_of}
use Rattle.vx_file.proofs.OneFile.{one_file}
use Rattle.vx_file.proofs.Parts.{part_there}

some_same : {A : Type 0} (x y : A) → ◌≡◌ {A = Option A} (Some x) (Some y) → x ≡ y
some_same x y e = cc

-- What holds of each of a list holds of the one at a place.
pub holds_at : {A : Type 0} (P : A → Type 0) (xs : List A) (i : ℕ) (x : A) → AllByRecursion P xs → slice_get xs i ≡ Some x → P x
holds_at P [] i x all e = absurd (cc)
holds_at P (y ∷ ys) zero x all e = subst P (some_same y x e) all.0
holds_at P (y ∷ ys) (suc i) x all e = holds_at P ys i x all.1 e

-- A footer begins at or before the end of its file.
offset_within : (bytes footer : List ℕ) (offset : ℕ) → IsFile file_word bytes footer offset → offset ≤ length bytes
offset_within bytes footer offset is =
    let rest = footer ++ (is.count ++ file_word) in
    omega (arith, is.offset_is, ap length is.parts, length-append file_word (is.body ++ rest), length-append is.body rest)

-- What stands at a place of the columns of a file.
pub record IsColumnAt (bytes : List ℕ) (ids : List (List ℕ)) (n : ℕ) (s : SessionMeaning) (ds : List Typ) (ts : List Tree) (i : ℕ) (r : FileRange) : Type 0 where
  pub dtype : Typ
  pub dtype_is : slice_get ds i ≡ Some dtype
  pub tree : Tree
  pub tree_is : slice_get ts i ≡ Some tree
  pub spelled : SpellsColumn (bytes_in bytes r) ids dtype n s tree

spelled_at : (bytes : List ℕ) (ids : List (List ℕ)) (n : ℕ) (s : SessionMeaning) (rs : List FileRange) (ds : List Typ) (ts : List Tree) (i : ℕ) (r : FileRange) → SpellColumns bytes ids n s rs ds ts → slice_get rs i ≡ Some r
    → IsColumnAt bytes ids n s ds ts i r
spelled_at bytes ids n s [] ds ts i r x e = absurd (cc)
spelled_at bytes ids n s (q ∷ rs) [] ts i r x e = absurd x
spelled_at bytes ids n s (q ∷ rs) (d ∷ ds) [] i r x e = absurd x
spelled_at bytes ids n s (q ∷ rs) (d ∷ ds) (t ∷ ts) zero r x e =
    let P : FileRange → Type 0 = λ z. SpellsColumn (bytes_in bytes z) ids d n s t in
    record { dtype = d; dtype_is = refl; tree = t; tree_is = refl; spelled = subst P (some_same q r e) x.0 }
spelled_at bytes ids n s (q ∷ rs) (d ∷ ds) (t ∷ ts) (suc i) r x e =
    let next = spelled_at bytes ids n s rs ds ts i r x.1 e in
    record { dtype = next.dtype; dtype_is = next.dtype_is; tree = next.tree; tree_is = next.tree_is; spelled = next.spelled }

-- A column of a table, with the blob of it in the bytes in which its file stands.
pub record IsPlacedColumn (s : SessionMeaning) (file : File) (bytes : List ℕ) (start : ℕ) (t : Tree) (i : ℕ) (r : FileRange) (d : Typ) : Type 0 where
  pub tree : Tree
  pub tree_is : slice_get (columns_of t) i ≡ Some tree
  pub spelled : SpellsColumn (part_of bytes (start + r.start) r.len) file.ids d file.rows s tree

columns_are : (t : Tree) (columns : List Tree) (ts : Trees) → below t ≡ ts → roses_list ts ≡ columns → columns_of t ≡ columns
columns_are t columns ts e f = ap (λ us. roses_list us) e ∙ f

pub column_at : (s : SessionMeaning) (file : File) (bytes own : List ℕ) (start : ℕ) (t : Tree) → StandAt bytes start own → FileShows own file → FileSpells own s t
    → (i : ℕ) (r : FileRange) (d : Typ) → slice_get file.ranges i ≡ Some r → ((fields : List Typ) → field_types file.dtype ≡ Some fields → slice_get fields i ≡ Some d)
    → IsPlacedColumn s file bytes start t i r d
column_at s file bytes own start t stand shows spells i r d range_is type_is =
    let same : spells.file ≡ file = one_file own spells.file file spells.shows shows in
    let H : File → Type 0 = λ f. HasColumns own f s spells.columns in
    let has = subst H same spells.has_columns in
    let at = spelled_at own file.ids file.rows s file.ranges has.fields spells.columns i r has.spelled range_is in
    let dtype : at.dtype ≡ d = some_same at.dtype d (sym at.dtype_is ∙ type_is has.fields has.fields_are) in
    let within = holds_at (IsWithin shows.offset) file.ranges i r shows.form.within range_is in
    let fits : r.start + r.len ≤ length own = omega (arith, within.«end», offset_within own shows.form.framed.footer shows.offset shows.form.framed.file) in
    let there : bytes_in own r ≡ part_of bytes (start + r.start) r.len = part_there bytes own start r.start r.len stand fits in
    let P : List ℕ → Type 0 = λ z. SpellsColumn z file.ids at.dtype file.rows s at.tree in
    let Q : Typ → Type 0 = λ e. SpellsColumn (part_of bytes (start + r.start) r.len) file.ids e file.rows s at.tree in
    let columns : columns_of t ≡ spells.columns = columns_are t spells.columns _ spells.table.below_is (roses_list-roses_of spells.columns) in
    record {
      tree = at.tree;
      tree_is = ap (λ ts. slice_get ts i) columns ∙ at.tree_is;
      spelled = subst Q dtype (subst P there at.spelled);
    }
