-- Loops that read what a view sees, part by part.
use Rattle.std.proofs.Common.{◌≡◌, ℕ, zero, suc, ◌+◌, ◌*◌, ◌<◌, ◌≤◌, true, false, cond, eqb, List, [], ◌∷◌, ◌++◌, Option, Some, None, ◌-◌}
use Rattle.std.proofs.Common.{refl, sym, ap, subst, ◌∙◌, arith, length, take}
use Rattle.std.specs.Prelude.{slice_get, option_map}
use Rattle.std.proofs.lemmas.Option.{get_or_from_slice_get, slice_get_within}
use Rattle.std.proofs.lemmas.List.{take_more}
use Rattle.std.proofs.Math.Seq.{take-length}
use Rattle.vx_flat.specs.declared.schema.FieldKind.{FieldKind}
use Rattle.vx_flat.specs.declared.schema.FieldKind.TheVariants.{Number, OptNumber, Flag, OptFlag, Vector, Structs, Text}
use Rattle.vx_flat.specs.declared.schema.FieldKind.TheVariants.{Texts, Table, Tables, Union}
use Rattle.vx_flat.specs.declared.viewing.View.{View}
use Rattle.vx_flat.specs.declared.viewing.VectorView.{VectorView}
use Rattle.vx_flat.specs.Schema.{Schema, slots}
use Rattle.vx_flat.specs.SchemaLists.{schema_of}
use Rattle.vx_flat.specs.Value.{Field, texts, tables, Fields, Rows, no_rows, row}
use Rattle.vx_flat.specs.View.{fields_from, rows_from}
use Rattle.vx_flat.specs.Reading.{table_shown, text_shown, vector_shown, fields_shown, field_shown}
use Rattle.vx_flat.specs.Entries.{kind_from, part_from, from_parts}
use Rattle.vx_flat.specs.declared.reading.places.FieldTable.{FieldTable}
use Rattle.vx_flat.specs.Places.{place_of}
use Rattle.vx_flat.proofs.Agree.{then_is, map_is}
use Rattle.vx_flat.specs.Parts.{IsTables, elements_of_kind, text_in, table_in, row_at, HasElements, element_size}
use Rattle.vx_flat.specs.Seen.{vector_seen, field_or_absent, fields_or_none, kind_in, kinds_in, part_in, seen, schema_in, IsBelow, IsVectorBelow, IsElement}
use Rattle.vx_flat.proofs.Seeing.{view_entry, view_shows, view_inline}
use Rattle.vx_flat.proofs.FieldsLoop.{FieldsRead, read_start, read_next, read_done}

take_next : {A : Type 0} (xs : List A) (i : ℕ) (x : A) → slice_get xs i ≡ Some x → take (i + 1) xs ≡ take i xs ++ x ∷ []
take_next xs i x e =
    take_more xs i x (slice_get_within xs i x e)
    ∙ ap (λ y. take i xs ++ y ∷ []) (get_or_from_slice_get xs i x x e)

take_end : {A : Type 0} (xs : List A) (n i : ℕ) → length xs ≡ n → n ≤ i → i ≤ n → take i xs ≡ xs
take_end xs n i l a b = let e : i ≡ length xs = omega (arith, l, a, b) in rw e (take-length xs)

-- ---- strings

abbrev pub strings_in : Field → List (List ℕ)
strings_in (texts ss) = ss
strings_in _ = []

pub strings_are : (f : Field) (n i : ℕ) (t : List ℕ) → text_in f i ≡ Some t → slice_get (strings_in f) i ≡ Some t
strings_are (texts ss) n i t e = e
strings_are _ n i t e = absurd cc

pub next_string : (f : Field) (i : ℕ) (t : List ℕ) → text_in f i ≡ Some t → take (i + 1) (strings_in f)
    ≡ take i (strings_in f) ++ t ∷ []
next_string f i t e = take_next (strings_in f) i t (strings_are f 0 i t e)

pub texts_whole : (f : Field) (o : Option (List (List ℕ))) → f ≡ field_or_absent (option_map (λ ss. texts ss) o) → (n : ℕ)
    → HasElements 4 f n → (texts (strings_in f) ≡ f) × (length (strings_in f) ≡ n)
texts_whole f None e n h = let a = subst (λ f. HasElements 4 f n) e h in absurd a
texts_whole f (Some ss) e n h =
    let a = subst (λ f. HasElements 4 f n) e h in
    rw e (refl, a)

pub all_strings : (v : VectorView) → v.kind ≡ Texts → (n i : ℕ) → HasElements (element_size (schema_of v.schema.now) v.kind) (vector_seen v) n
    → n ≤ i → i ≤ n → (xs : List (List ℕ)) → xs ≡ take i (strings_in (vector_seen v)) → texts xs ≡ vector_seen v
all_strings v is n i h a b xs e =
    let s = schema_of v.schema.now in
    let m = v.message.now in
    let seen = ap (λ k. field_or_absent (elements_of_kind s (λ q T. table_shown s m q T) m k v.place)) is in
    let h4 = subst (λ k. HasElements (element_size s k) (vector_seen v) n) is h in
    let w = texts_whole (vector_seen v) (vector_shown (λ q. text_shown m q) m v.place) seen n h4 in
    ap (λ xs. texts xs) (e ∙ take_end (strings_in (vector_seen v)) n i w.1 a b) ∙ w.0

-- ---- tables

abbrev pub list_of : Rows → List Fields
list_of no_rows = []
list_of (row vs rs) = vs ∷ list_of rs

pub rows_list : (rs : List Fields) → list_of (rows_from rs) ≡ rs
rows_list [] = refl
rows_list (r ∷ rs) = ap (λ rs. r ∷ rs) (rows_list rs)

list_get : (rs : Rows) (i : ℕ) → row_at rs i ≡ slice_get (list_of rs) i
list_get no_rows i = refl
list_get (row vs rs) zero = refl
list_get (row vs rs) (suc i) = list_get rs i

abbrev pub tables_in : Field → List Fields
tables_in (tables rs) = list_of rs
tables_in _ = []

pub tables_are : (f : Field) (i : ℕ) (t : Fields) → table_in f i ≡ Some t → slice_get (tables_in f) i ≡ Some t
tables_are (tables rs) i t e = sym (list_get rs i) ∙ e
tables_are _ i t e = absurd cc

pub next_table : (f : Field) (i : ℕ) (t : Fields) → table_in f i ≡ Some t → take (i + 1) (tables_in f)
    ≡ take i (tables_in f) ++ t ∷ []
next_table f i t e = take_next (tables_in f) i t (tables_are f i t e)

rows_of_count : (rs : List Fields) (n : ℕ) → HasElements 4 (tables (rows_from rs)) n → length rs ≡ n
rows_of_count [] n h = h
rows_of_count (r ∷ rs) n h = let k = rows_of_count rs (n - 1) (omega (arith, h)) in omega (arith, k, h)

pub tables_whole : (f : Field) (o : Option (List Fields)) → f ≡ field_or_absent (option_map (λ rs. tables (rows_from rs)) o)
    → (n : ℕ) → HasElements 4 f n → (tables (rows_from (tables_in f)) ≡ f) × (length (tables_in f) ≡ n)
tables_whole f None e n h = let a = subst (λ f. HasElements 4 f n) e h in absurd a
tables_whole f (Some rs) e n h =
    let a = subst (λ f. HasElements 4 f n) e h in
    let l : tables_in f ≡ rs = ap tables_in e ∙ rows_list rs in
    (ap (λ rs. tables (rows_from rs)) l ∙ sym e, ap (λ rs. length rs) l ∙ rows_of_count rs n a)

pub all_tables : (v : VectorView) (T : ℕ) → v.kind ≡ Tables T → (n i : ℕ)
    → HasElements (element_size (schema_of v.schema.now) v.kind) (vector_seen v) n
    → n ≤ i → i ≤ n → (xs : List Fields) → xs ≡ take i (tables_in (vector_seen v)) → tables (rows_from xs) ≡ vector_seen v
all_tables v T is n i h a b xs e =
    let s = schema_of v.schema.now in
    let m = v.message.now in
    let seen = ap (λ k. field_or_absent (elements_of_kind s (λ q T. table_shown s m q T) m k v.place)) is in
    let h4 = subst (λ k. HasElements (element_size s k) (vector_seen v) n) is h in
    let w = tables_whole (vector_seen v) (vector_shown (λ q. table_shown s m q T) m v.place) seen n h4 in
    ap (λ xs. tables (rows_from xs)) (e ∙ take_end (tables_in (vector_seen v)) n i w.1 a b) ∙ w.0

pub kind_of_tables : (k : FieldKind) → IsTables k → (T : ℕ) × (k ≡ Tables T)
kind_of_tables (Tables T) h = (T, refl)
kind_of_tables _ h = absurd h

pub is_tables : (k : FieldKind) (T : ℕ) → Some k ≡ Some (Tables T) → IsTables k
is_tables k T e = let a : k ≡ Tables T = cc in rw a tt

-- ---- fields

-- The fields after those whose entries end at i have the kinds that they have in the whole.
abbrev pub SameKinds : List FieldKind → List FieldKind → ℕ → Type 0
SameKinds ks rest i = (e : ℕ) → i ≤ e → kind_from rest i e ≡ kind_from ks 0 e

eqb_same : (i : ℕ) → eqb i i ≡ true
eqb_same i = grind arith

eqb_less : (i e : ℕ) → i < e → eqb i e ≡ false
eqb_less i e lt = grind arith

pub this_kind : (ks rest left : List FieldKind) (k : FieldKind) (i : ℕ) → left ≡ k ∷ rest → SameKinds ks left i
    → kind_from ks 0 i ≡ Some k
this_kind ks rest left k i is h =
    let a : kind_from (k ∷ rest) i i ≡ Some k = rw (eqb_same i) refl in
    sym (h i (omega arith)) ∙ (ap (λ l. kind_from l i i) is ∙ a)

pub next_kinds : (ks rest left : List FieldKind) (k : FieldKind) (i : ℕ) → left ≡ k ∷ rest → 1 ≤ slots k
    → SameKinds ks left i → SameKinds ks rest (i + slots k)
next_kinds ks rest left k i is one h = λ e le.
    let b : eqb i e ≡ false = eqb_less i e (omega (arith, le, one)) in
    let a : kind_from (k ∷ rest) i e ≡ kind_from rest (i + slots k) e = rw b refl in
    sym a ∙ (sym (ap (λ l. kind_from l i e) is) ∙ h e (omega (arith, le)))

pub one_slot : (k : FieldKind) → 1 ≤ slots k
one_slot (Union u) = omega arith
one_slot (Number w) = omega arith
one_slot (OptNumber w) = omega arith
one_slot Flag = omega arith
one_slot OptFlag = omega arith
one_slot (Vector w) = omega arith
one_slot (Structs n) = omega arith
one_slot Text = omega arith
one_slot Texts = omega arith
one_slot (Table T) = omega arith
one_slot (Tables T) = omega arith

-- the values of front were read, and those of the fields left are still to be read
abbrev pub ViewRead : View → List Field → List FieldKind → ℕ → Type 0
ViewRead v front left i =
    FieldsRead (schema_in v) v.message.now v.place v.fields (kinds_in v) front left i

pub view_read_start : (v : View) → ViewRead v [] (kinds_in v) 0
view_read_start v = read_start (schema_in v) v.message.now v.place v.fields (kinds_in v)

pub view_read_next : (v : View) (front : List Field) (k : FieldKind) (rest left : List FieldKind) (i : ℕ)
    → left ≡ k ∷ rest → ViewRead v front left i → kind_in v i ≡ Some k → (x : Field) → x ≡ part_in v i
    → ViewRead v (front ++ x ∷ []) rest (i + slots k)
view_read_next v front k rest left i is h kind x e =
    read_next (schema_in v) v.message.now v.place v.fields (kinds_in v) front k rest left i is h x
    ((view_entry v i k kind).1 ∙ ap Some (sym e))

pub view_read_done : (v : View) (front : List Field) (left : List FieldKind) (i : ℕ) → left ≡ [] → ViewRead v front left i
    → fields_from front ≡ seen v
view_read_done v front left i is h =
    let a = read_done (schema_in v) v.message.now v.place v.fields (kinds_in v) front left i is h in
    let b = view_shows v in
    let same : b.0 ≡ front = let k = sym b.1 ∙ a in cc in
    ap fields_from (sym same) ∙ sym (ap fields_or_none b.2)

-- ---- a part lies past its table's place

pub child_less : (v w : View) → IsBelow v w
    → 3 * (length w.message.now - w.place) + 2 < 3 * (length v.message.now - v.place) + 1
child_less v w h =
    let l = (view_inline v).1 in
    let e : length w.message.now ≡ length v.message.now = ap (λ m. length m.now) h.message in
    omega (arith, l, e, h.later)

pub vector_less : (v : View) (w : VectorView) → IsVectorBelow v w
    → 3 * (length w.message.now - w.place) + 2 < 3 * (length v.message.now - v.place) + 1
vector_less v w h =
    let l = (view_inline v).1 in
    let e : length w.message.now ≡ length v.message.now = ap (λ m. length m.now) h.message in
    omega (arith, l, e, h.later)

pub element_less : (v : VectorView) (w : View) → IsElement v w
    → 3 * (length w.message.now - w.place) + 2 < 3 * (length v.message.now - v.place) + 2
element_less v w h =
    let l = (view_inline w).1 in
    let e : length w.message.now ≡ length v.message.now = ap (λ m. length m.now) h.message in
    omega (arith, l, e, h.later)

-- ---- what a view sees is its parts

parts_whole : (s : Schema) (below : ℕ → ℕ → Option Fields) (m : List ℕ) (t : ℕ) (f : FieldTable) (ks : List FieldKind) (i : ℕ)
    (vs : List Field) (part : ℕ → Field) → fields_shown s below m t f ks i ≡ Some vs
    → ((e : ℕ) → i ≤ e → part e ≡ part_from ks (fields_from vs) i e) → from_parts ks part i ≡ fields_from vs
parts_whole s below m t f [] i vs part e h = let k : [] ≡ vs = cc in ap fields_from k
parts_whole s below m t f (k ∷ ks) i vs part e h =
    let x = then_is (λ v. option_map (λ vs. v ∷ vs) (fields_shown s below m t f ks (i + slots k)))
    (field_shown s below m k (place_of m t f i) (place_of m t f (i + 1))) vs e in
    let y = map_is (λ vs. x.0 ∷ vs) (fields_shown s below m t f ks (i + slots k)) vs x.2 in
    let here : part i ≡ x.0 =
    h i (omega arith) ∙ (ap (λ vs. part_from (k ∷ ks) (fields_from vs) i i) (sym y.2)
    ∙ ap (λ b. cond b x.0 (part_from ks (fields_from y.0) (i + slots k) i)) (eqb_same i)) in
    let one = one_slot k in
    let rest : (e : ℕ) → i + slots k ≤ e → part e ≡ part_from ks (fields_from y.0) (i + slots k) e =
    λ e le. h e (omega (arith, le)) ∙ (ap (λ vs. part_from (k ∷ ks) (fields_from vs) i e) (sym y.2)
    ∙ ap (λ b. cond b x.0 (part_from ks (fields_from y.0) (i + slots k) e)) (eqb_less i e (omega (arith, le, one)))) in
    let later = parts_whole s below m t f ks (i + slots k) y.0 part y.1 rest in
    rw (here, later) (ap fields_from y.2)

pub view_parts : (v : View) → seen v ≡ from_parts (kinds_in v) (λ i. part_in v i) 0
view_parts v =
    let s = schema_in v in
    let m = v.message.now in
    let b = view_shows v in
    let is : seen v ≡ fields_from b.0 = ap fields_or_none b.2 in
    is ∙ sym (parts_whole s (λ q U. table_shown s m q U) m v.place v.fields (kinds_in v) 0 b.0 (λ i. part_in v i) b.1
    (λ e le. ap (λ vs. part_from (kinds_in v) vs 0 e) is))
