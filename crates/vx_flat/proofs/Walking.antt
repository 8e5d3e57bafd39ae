-- The writer of a value writes its blocks, and says why it stops.
use Rattle.std.proofs.Common.{◌≡◌, ℕ, zero, suc, ◌+◌, ◌<◌, ◌≤◌, ◌^◌, Bool, true, false, List, [], ◌∷◌, ◌++◌, inl, inr, length, map, drop}
use Rattle.std.proofs.Common.{get_or, refl, sym, ap, subst, ◌∙◌, arith, Vec, Global, String, string_bytes, Result, Ok, Err, Some}
use Rattle.std.specs.Prelude.{OnOk, IfErr}
use Rattle.std.proofs.lemmas.List.{drop_more, length-append}
use Rattle.vx_flat.specs.declared.error.FlatError.{FlatError}
use Rattle.vx_flat.specs.declared.error.FlatError.TheVariants.{OutOfMemory, BadTable, TableLimit}
use Rattle.vx_flat.specs.declared.error.FlatError.TheVariants.{MessageTooLong}
use Rattle.vx_flat.specs.declared.schema.FieldKind.{FieldKind}
use Rattle.vx_flat.specs.declared.schema.FieldKind.TheVariants.{Number, OptNumber, Flag, OptFlag, Vector, Structs, Text}
use Rattle.vx_flat.specs.declared.schema.FieldKind.TheVariants.{Texts, Table, Tables, Union}
use Rattle.vx_flat.specs.declared.schema.Width.TheVariants.{One}
use Rattle.vx_flat.specs.declared.value.FieldValue.{FieldValue}
use Rattle.vx_flat.specs.Building.{Built, waiting, with_piece, with_rest, with_pieces, nothing_by, IsTooLong, RefusesPiece}
use Rattle.vx_flat.specs.IsOf.{IsOf, AreOf, IsOfKind, AreRowsOf}
use Rattle.vx_flat.specs.Pieces.{Piece, elements_piece, links_piece, text_piece, entries, field_entries}
use Rattle.vx_flat.specs.Pieces.{field_pieces, fields_pieces, rows_pieces, table_pieces}
use Rattle.vx_flat.specs.Schema.{Schema, fields_of, members_of, table_of, slots, slots_of}
use Rattle.vx_flat.specs.KindParts.{element_size, table_number, union_number}
use Rattle.vx_flat.specs.Blocks.{union_fields}
use Rattle.vx_flat.specs.declared.builder.piece.LinkKind.TheVariants as link
use Rattle.vx_flat.specs.Value.{Field, absent, number, elements, text, texts, table, tables, member, unknown, rows_length}
use Rattle.vx_flat.specs.Value.{Fields, no_fields, field, Rows, row}
use Rattle.vx_flat.specs.View.{view, views, fields_from, rows_from}
use Rattle.vx_flat.specs.Layout.{layout}
use Rattle.vx_flat.specs.Walking.{IsCut}
use Rattle.vx_flat.proofs.Continuing.{rest_runs, rest_works, rest_grows}
use Rattle.vx_flat.proofs.Linked.{value_bytes}
use Rattle.vx_flat.proofs.Pushing.{map_at}
use Rattle.vx_flat.proofs.Standing.{length_map}

-- ---- why it stops

too_long : (b : Built) (p : Piece) → b.failed ≡ false → IsTooLong b (p ∷ []) → 2 ^ 31 ≤ length (with_piece b p).bytes
too_long b p w (inl f) = let e : true ≡ false = sym f ∙ w in absurd cc
too_long b p w (inr l) = l

-- a block is refused by a builder that has not failed
pub refused_cut : (b new : Built) (p : Piece) (e : FlatError) → b.failed ≡ false → RefusesPiece b p e new
    → IsCut (with_piece b p) e
refused_cut b new p OutOfMemory w h = tt
refused_cut b new p MessageTooLong w h = too_long b p w h.1
refused_cut b new p BadTable w h = absurd h
refused_cut b new p TableLimit w h = absurd h

-- further blocks make the message longer
pub cut_more : (b : Built) (qs : List Piece) (e : FlatError) → IsCut b e → IsCut (with_rest b qs) e
cut_more b qs OutOfMemory h = tt
cut_more b qs MessageTooLong h = let g = rest_grows b qs in omega (arith, g, h)
cut_more b qs BadTable h = absurd h
cut_more b qs TableLimit h = absurd h

-- ---- the block for the next link

pub next_written : {T : Type 0} (r : Result T FlatError) (old mid new : Built) (p : Piece) → mid ≡ waiting old
    → OnOk r (new ≡ with_piece mid p) → OnOk r (new ≡ with_rest old (p ∷ []))
next_written r old mid new p is h = subst (λ b. OnOk r (new ≡ with_piece b p)) is h

pub next_cut : {T : Type 0} (r : Result T FlatError) (old mid new : Built) (p : Piece) → mid ≡ waiting old
    → old.failed ≡ false → IfErr r (λ e. RefusesPiece mid p e new) → IfErr r (λ e. IsCut (with_rest old (p ∷ [])) e)
next_cut (Ok x) old mid new p is w h = tt
next_cut (Err e) old mid new p is w h =
    let works : mid.failed ≡ false = ap (λ (b : Built). b.failed) is ∙ w in
    subst (λ b. IsCut (with_piece b p) e) is (refused_cut mid new p e works h)

-- ---- blocks one after the other

-- A builder that has not failed, with these blocks, is the whole.
pub record Walked (done : Built) (ps : List Piece) (all : Built) : Type 0 where
  pub whole : with_rest done ps ≡ all
  pub works : done.failed ≡ false

pub walked_first : (old new : Built) (p : Piece) (ps : List Piece) → new ≡ with_rest old (p ∷ [])
    → Walked new ps (with_rest old (p ∷ ps))
walked_first old new p ps e = record {
  whole = ap (λ b. with_rest b ps) e;
  works = ap (λ (b : Built). b.failed) e;
}

pub walked_more : (b new : Built) (ps qs : List Piece) (all : Built) → Walked b (ps ++ qs) all → new ≡ with_rest b ps
    → Walked new qs all
walked_more b new ps qs all h e = record {
  whole = ap (λ z. with_rest z qs) e ∙ (rest_runs b ps qs ∙ h.whole);
  works = ap (λ (b : Built). b.failed) e ∙ rest_works b ps h.works;
}

pub walked_cut : (b : Built) (ps qs : List Piece) (all : Built) (e : FlatError) → Walked b (ps ++ qs) all
    → IsCut (with_rest b ps) e → IsCut all e
walked_cut b ps qs all e h c =
    subst (λ z. IsCut z e) (rest_runs b ps qs ∙ h.whole) (cut_more (with_rest b ps) qs e c)

-- ---- fields and rows

pub record FieldsLeft (s : Schema) (ks : List FieldKind) (vs : Fields) (done all : Built) : Type 0 where
  pub of_kinds : AreOf s ks vs
  pub walked : Walked done (fields_pieces s ks vs) all

pub record RowsLeft (s : Schema) (T : ℕ) (rs : Rows) (done all : Built) : Type 0 where
  pub of_kinds : AreRowsOf s T rs
  pub walked : Walked done (rows_pieces s T rs) all

kinds_more : (s : Schema) (ks : List FieldKind) (i : ℕ) (v : Field) (vs : Fields) → AreOf s (drop i ks) (field v vs)
    → i < length ks
kinds_more s [] zero v vs h = absurd h
kinds_more s [] (suc i) v vs h = absurd h
kinds_more s (k ∷ ks) zero v vs h = omega arith
kinds_more s (k ∷ ks) (suc i) v vs h = let r = kinds_more s ks i v vs h in omega (arith, r)

-- the fields that are left begin with field i
pub first_left : (P : List FieldKind → Fields → Type 0) (s : Schema) (ks : List FieldKind) (ps : List FieldValue) (i : ℕ)
    (x : FieldValue) → i < length ps → x ≡ get_or ps i x → AreOf s (drop i ks) (views (drop i ps))
    → P (drop i ks) (views (drop i ps))
    → P (get_or ks i (Number One) ∷ drop (i + 1) ks) (field (view x) (views (drop (i + 1) ps)))
first_left P s ks ps i x lt e of w =
    let here = map_at view ps i x lt e in
    let a : P (drop i ks) (field (view x) (views (drop (i + 1) ps))) = subst (λ vs. P (drop i ks) (fields_from vs)) here w in
    let o : AreOf s (drop i ks) (field (view x) (views (drop (i + 1) ps))) =
    subst (λ vs. AreOf s (drop i ks) (fields_from vs)) here of in
    let more = kinds_more s ks i (view x) (views (drop (i + 1) ps)) o in
    subst (λ ds. P ds (field (view x) (views (drop (i + 1) ps)))) (drop_more ks i (Number One) more) a

-- there is a kind for each value
pub kind_there : (s : Schema) (ks : List FieldKind) (ps : List FieldValue) (i : ℕ) (x : FieldValue) → i < length ps
    → x ≡ get_or ps i x → AreOf s (drop i ks) (views (drop i ps)) → i < length ks
kind_there s ks ps i x lt e of =
    kinds_more s ks i (view x) (views (drop (i + 1) ps))
    (subst (λ vs. AreOf s (drop i ks) (fields_from vs)) (map_at view ps i x lt e) of)

pub rows_first : (P : Rows → Type 0) (rows : List (Vec FieldValue Global)) (i : ℕ) (x : Vec FieldValue Global)
    → i < length rows → x ≡ get_or rows i x → P (rows_from (map (λ r. views r.items) (drop i rows)))
    → P (row (views x.items) (rows_from (map (λ r. views r.items) (drop (i + 1) rows))))
rows_first P rows i x lt e w = subst (λ rs. P (rows_from rs)) (map_at (λ r. views r.items) rows i x lt e) w

-- the strings that are left begin with string i
pub texts_more : (xs : List (String Global)) (i : ℕ) (x : String Global) → i < length xs → x ≡ get_or xs i x
    → map text_piece (map string_bytes (drop i xs))
    ≡ text_piece (string_bytes x) ∷ map text_piece (map string_bytes (drop (i + 1) xs))
texts_more xs i x lt e = ap (λ ys. map text_piece ys) (map_at string_bytes xs i x lt e)

-- ---- the entries of a table

-- a field has as many entries as its kind has
field_slots : (s : Schema) (k : FieldKind) (v : Field) → IsOfKind s k v → length (field_entries k v) ≡ slots k
field_slots s (Number w) (number v) of = refl
field_slots s (OptNumber w) absent of = refl
field_slots s (OptNumber w) (number v) of = refl
field_slots s Flag (number v) of = refl
field_slots s OptFlag absent of = refl
field_slots s OptFlag (number v) of = refl
field_slots s (Vector w) absent of = refl
field_slots s (Vector w) (elements bs) of = refl
field_slots s (Structs i) absent of = refl
field_slots s (Structs i) (elements bs) of = refl
field_slots s Text absent of = refl
field_slots s Text (text bs) of = refl
field_slots s Texts absent of = refl
field_slots s Texts (texts ss) of = refl
field_slots s (Table T) absent of = refl
field_slots s (Table T) (table vs) of = refl
field_slots s (Tables T) absent of = refl
field_slots s (Tables T) (tables rs) of = refl
field_slots s (Union u) absent of = refl
field_slots s (Union u) (unknown g) of = refl
field_slots s (Union u) (member g vs) of = refl
field_slots s _ _ of = absurd of

pub entries_slots : (s : Schema) (ks : List FieldKind) (vs : Fields) → AreOf s ks vs → length (entries ks vs) ≡ slots_of ks
entries_slots s [] no_fields of = refl
entries_slots s (k ∷ ks) (field v vs) of =
    let a = field_slots s k v of.0 in
    let b = entries_slots s ks vs of.1 in
    length-append (field_entries k v) (entries ks vs) ∙ omega (arith, a, b)
entries_slots s _ _ of = absurd of

-- ---- the blocks below a field of each kind

pub elements_below : (s : Schema) (k : FieldKind) (bs : List ℕ) → IsOfKind s k (elements bs)
    → elements_piece (element_size s k) bs ∷ [] ≡ field_pieces s k (elements bs)
elements_below s (Vector w) bs h = refl
elements_below s (Structs i) bs h = refl
elements_below s _ bs h = absurd h

pub text_below : (s : Schema) (k : FieldKind) (t : List ℕ) → IsOfKind s k (text t)
    → text_piece t ∷ [] ≡ field_pieces s k (text t)
text_below s Text t h = refl
text_below s _ t h = absurd h

pub texts_below : (s : Schema) (k : FieldKind) (xs : List (String Global)) → IsOfKind s k (texts (map string_bytes xs))
    → links_piece link.Text (length xs) ∷ map text_piece (map string_bytes xs)
    ≡ field_pieces s k (texts (map string_bytes xs))
texts_below s Texts xs h =
    ap (λ n. links_piece link.Text n ∷ map text_piece (map string_bytes xs)) (sym (length_map string_bytes xs))
texts_below s _ xs h = absurd h

pub table_below : (s : Schema) (k : FieldKind) (vs : Fields) → IsOfKind s k (table vs)
    → table_pieces s (fields_of s (table_number k)) vs ≡ field_pieces s k (table vs)
table_below s (Table T) vs h = refl
table_below s _ vs h = absurd h

rows_count : (rs : List (Vec FieldValue Global)) → rows_length (rows_from (map (λ r. views r.items) rs)) ≡ length rs
rows_count [] = refl
rows_count (r ∷ rs) = ap suc (rows_count rs)

pub rows_below : (s : Schema) (k : FieldKind) (xs : List (Vec FieldValue Global))
    → IsOfKind s k (tables (rows_from (map (λ r. views r.items) xs)))
    → links_piece link.Table (length xs) ∷ rows_pieces s (table_number k) (rows_from (map (λ r. views r.items) xs))
    ≡ field_pieces s k (tables (rows_from (map (λ r. views r.items) xs)))
rows_below s (Tables T) xs h =
    ap (λ n. links_piece link.Table n ∷ rows_pieces s T (rows_from (map (λ r. views r.items) xs))) (sym (rows_count xs))
rows_below s _ xs h = absurd h

-- A member's table is that of its tag.
pub record IsMember (s : Schema) (k : FieldKind) (g : ℕ) (vs : Fields) : Type 0 where
  pub table : ℕ
  pub tagged : table_of (members_of s (union_number k)) g ≡ Some table
  pub of_kinds : AreOf s (fields_of s table) vs
  pub below : table_pieces s (fields_of s table) vs ≡ field_pieces s k (member g vs)

pub member_below : (s : Schema) (k : FieldKind) (g : ℕ) (vs : Fields) → IsOfKind s k (member g vs) → IsMember s k g vs
member_below s (Union u) g vs h = record {
  table = h.2.0;
  tagged = h.2.1;
  of_kinds = h.2.2;
  below = ap (λ o. table_pieces s (union_fields s o) vs) (sym h.2.1);
}
member_below s _ g vs h = absurd h

-- What was written of equal blocks.
pub told : {T E : Type 0} (r : Result T E) (new old : Built) (ps qs : List Piece) → ps ≡ qs
    → OnOk r (new ≡ with_rest old ps) → OnOk r (new ≡ with_rest old qs)
told r new old ps qs e h = subst (λ ps. OnOk r (new ≡ with_rest old ps)) e h

pub told_cut : {T : Type 0} (r : Result T FlatError) (old : Built) (ps qs : List Piece) → ps ≡ qs
    → IfErr r (λ e. IsCut (with_rest old ps) e) → IfErr r (λ e. IsCut (with_rest old qs) e)
told_cut r old ps qs e h = subst (λ ps. IfErr r (λ e. IsCut (with_rest old ps) e)) e h

-- ---- the layout

-- Writing a value with an empty builder gives its layout.
pub layout_walked : (s : Schema) (sharing : Bool) (v : Fields) (b : Built) (T : ℕ) (vs : Fields) → b ≡ nothing_by sharing
    → T ≡ s.root → vs ≡ v → IsOf s v → (with_pieces b (table_pieces s (fields_of s T) vs)).bytes ≡ layout sharing s v
layout_walked s sharing v b T vs first root same of =
    (λ i. (with_pieces (first i) (table_pieces s (fields_of s (root i)) (same i))).bytes) ∙ value_bytes s sharing v of

pub cut_long : (all : Built) (e : FlatError) (m : List ℕ) → all.bytes ≡ m → IsCut all e → e ≡ MessageTooLong
    → 2 ^ 31 ≤ length m
cut_long all e m same cut is = subst (λ (bs : List ℕ). 2 ^ 31 ≤ length bs) same (subst (λ e. IsCut all e) is cut)
