-- Rows' values and scalars', element by element, and what a typed row is over a core's.
use Rattle.std.proofs.Common.{ℕ, zero, suc, ◌≡◌, ◌<◌, ◌≤◌, ◌+◌, ◌||◌, List, [], ◌∷◌, ◌++◌, Option, Some, None, Bool, true, false, refl, sym, ap, ◌∙◌, length, take, get_or, arith, add-one, if◌then◌else◌}
use Rattle.std.specs.Prelude.{◌↔◌, IsTrue}
use Rattle.std.proofs.lemmas.Bool.{false≢true}
use Rattle.vx_trees.specs.Same.{same}
use Rattle.vx_trees.proofs.Sameness.{same-decides}
use Rattle.vx_trees.specs.Rose.{node, end, more, roses_of}
use Rattle.vx_trees.proofs.LawsOfLists.{heads, tails}
use Rattle.vx_types.specs.Kind as K
use Rattle.vx_types.specs.Typ.{Typ, typ_code}
use Rattle.vx_types.specs.Value.{Value, Values, Mark, null, opaque, bool, number, decimal, utf8, binary, tuple, union, variant, variant_of, lone, has_opaque, have_opaque, is_null, value_cells, values_cells}
use Rattle.vx_scalars.specs.Decimals.{decimal_of}
use Rattle.vx_scalars.specs.Seen.{all_seen, seen, value_of}
use Rattle.vx_scalars.specs.Told.{Typed}
use Rattle.vx_scalars.specs.declared.value.ScalarValue.{ScalarValue}
use Rattle.vx_scalars.specs.declared.value.ScalarValue.TheVariants as S
use Rattle.vx_array_tree.specs.Encodings.Variants.{merged_over, row_over}
use Rattle.vx_array_tree.specs.Merge.{Raw, fallback_structure, merge, merged, or_null}
use Rattle.vx_rows.specs.Merging.{fallback_of}
use Rattle.vx_rows.specs.Plain.{plain_value, plain_values}
use Rattle.vx_rows.specs.RowScalars.{hides}
use Rattle.vx_rows.specs.declared.row.RowValue.{RowValue}
use Rattle.vx_rows.specs.declared.row.RowValue.TheVariants as R
use Rattle.vx_rows.proofs.Fieldwise.{seen_take}
use Rattle.vx_trees.proofs.LawsOfMapped.{roses_of-injective}

-- ---- element by element

rows_take : (rs : List RowValue) (i : ℕ) (r : RowValue) → i < length rs → r ≡ get_or rs i r → plain_values (take (suc i) rs) ≡ plain_values (take i rs) ++ plain_value r ∷ []
rows_take [] i r h q = absurd (omega (arith, h))
rows_take (x ∷ rs) zero r h q = ap (λ (z : RowValue). plain_value z ∷ []) (sym q)
rows_take (x ∷ rs) (suc i) r h q = ap (λ (vs : List Value). plain_value x ∷ vs) (rows_take rs i r (omega (arith, h)) q)

-- One row more.
pub rows_more : (rs : List RowValue) (i : ℕ) (r : RowValue) (vs : List Value) (v : Value) → i < length rs → r ≡ get_or rs i r → vs ≡ plain_values (take i rs) → v ≡ plain_value r → vs ++ v ∷ [] ≡ plain_values (take (i + 1) rs)
rows_more rs i r vs v h q e f = rw (add-one i) ((λ j. e j ++ f j ∷ []) ∙ sym (rows_take rs i r h q))

-- One value more.
pub values_more : (os : List (Option ScalarValue)) (i : ℕ) (o : Option ScalarValue) (vs : List Value) (v : Value) → i < length os → o ≡ get_or os i o → vs ≡ all_seen (take i os) → v ≡ seen o → vs ++ v ∷ [] ≡ all_seen (take (i + 1) os)
values_more os i o vs v h q e f = rw (add-one i) ((λ j. e j ++ f j ∷ []) ∙ sym (seen_take os i o h q))

or_left : (a b : Bool) → (a || b) ≡ false → a ≡ false
or_left true b e = e
or_left false b e = refl

or_right : (a b : Bool) → (a || b) ≡ false → b ≡ false
or_right true b e = absurd (false≢true (sym e))
or_right false b e = e

-- Where nothing opaque stands in rows none stands in one of them.
pub plain_at : (rs : List RowValue) (i : ℕ) (r : RowValue) → i < length rs → r ≡ get_or rs i r → have_opaque (roses_of (plain_values rs)) ≡ false → has_opaque (plain_value r) ≡ false
plain_at [] i r h q e = absurd (omega (arith, h))
plain_at (x ∷ rs) zero r h q e = ap (λ (z : RowValue). has_opaque (plain_value z)) q ∙ or_left (has_opaque (plain_value x)) (have_opaque (roses_of (plain_values rs))) e
plain_at (x ∷ rs) (suc i) r h q e = plain_at rs i r (omega (arith, h)) q (or_right (has_opaque (plain_value x)) (have_opaque (roses_of (plain_values rs))) e)

opaque_suc : (rs : List RowValue) (i : ℕ) (r : RowValue) → i < length rs → r ≡ get_or rs i r → have_opaque (roses_of (plain_values (take i rs))) ≡ false → has_opaque (plain_value r) ≡ false → have_opaque (roses_of (plain_values (take (suc i) rs))) ≡ false
opaque_suc [] i r h q e f = absurd (omega (arith, h))
opaque_suc (x ∷ rs) zero r h q e f = ap (λ (b : Bool). b || false) (ap (λ (z : RowValue). has_opaque (plain_value z)) (sym q) ∙ f)
opaque_suc (x ∷ rs) (suc i) r h q e f =
    ap (λ (b : Bool). b || have_opaque (roses_of (plain_values (take (suc i) rs)))) (or_left (has_opaque (plain_value x)) (have_opaque (roses_of (plain_values (take i rs)))) e)
    ∙ opaque_suc rs i r (omega (arith, h)) q (or_right (has_opaque (plain_value x)) (have_opaque (roses_of (plain_values (take i rs)))) e) f

-- One row more in which none stands.
pub opaque_more : (rs : List RowValue) (i : ℕ) (r : RowValue) (b : Bool) → i < length rs → r ≡ get_or rs i r → have_opaque (roses_of (plain_values (take i rs))) ≡ false → b ≡ has_opaque (plain_value r) → b ≡ false
    → have_opaque (roses_of (plain_values (take (i + 1) rs))) ≡ false
opaque_more rs i r b h q e f g = rw (add-one i) (opaque_suc rs i r h q e (sym f ∙ g))

or_true : (a b : Bool) → b ≡ true → (a || b) ≡ true
or_true true b e = refl
or_true false b e = e

-- One row in which it does.
pub opaque_here : (rs : List RowValue) (i : ℕ) (r : RowValue) (b : Bool) → i < length rs → r ≡ get_or rs i r → b ≡ has_opaque (plain_value r) → b ≡ true → true ≡ have_opaque (roses_of (plain_values rs))
opaque_here [] i r b h q f g = absurd (omega (arith, h))
opaque_here (x ∷ rs) zero r b h q f g = sym (ap (λ (z : Bool). z || have_opaque (roses_of (plain_values rs))) (ap (λ (z : RowValue). has_opaque (plain_value z)) (sym q) ∙ sym f ∙ g))
opaque_here (x ∷ rs) (suc i) r b h q f g = sym (or_true (has_opaque (plain_value x)) (have_opaque (roses_of (plain_values rs))) (sym (opaque_here rs i r b (omega (arith, h)) q f g)))

pub row_take_all : (rs : List RowValue) (i : ℕ) → length rs ≤ i → plain_values (take i rs) ≡ plain_values rs
row_take_all [] zero h = refl
row_take_all [] (suc i) h = refl
row_take_all (r ∷ rs) zero h = absurd (omega (arith, h))
row_take_all (r ∷ rs) (suc i) h = ap (λ (vs : List Value). plain_value r ∷ vs) (row_take_all rs i (omega (arith, h)))

pub value_take_all : (os : List (Option ScalarValue)) (i : ℕ) → length os ≤ i → all_seen (take i os) ≡ all_seen os
value_take_all [] zero h = refl
value_take_all [] (suc i) h = refl
value_take_all (o ∷ os) zero h = absurd (omega (arith, h))
value_take_all (o ∷ os) (suc i) h = ap (λ (vs : List Value). seen o ∷ vs) (value_take_all os i (omega (arith, h)))

-- ---- equality of scalars

-- A value that is not null is not the null.
pub present_null : (v : ScalarValue) → value_of v ≡ lone null → ⊥
present_null (S.Bool b) e = absurd (cc)
present_null (S.Primitive n) e = absurd (cc)
present_null (S.Decimal x) e = absurd (cc)
present_null (S.Utf8 s) e = absurd (cc)
present_null (S.Binary bs) e = absurd (cc)
present_null (S.Tuple vs) e = absurd (cc)
present_null (S.Union tag v) e = absurd (cc)
present_null (S.Variant s) e = absurd (cc)

same_take : (xs bs : List (Option ScalarValue)) (i : ℕ) (a b : Option ScalarValue) → i < length xs → i < length bs → a ≡ get_or xs i a → b ≡ get_or bs i b → all_seen (take i xs) ≡ all_seen (take i bs) → seen a ≡ seen b
    → all_seen (take (i + 1) xs) ≡ all_seen (take (i + 1) bs)
same_take xs bs i a b h k p q e f = sym (values_more xs i a (all_seen (take i xs)) (seen a) h p refl refl) ∙ (λ j. e j ++ f j ∷ []) ∙ values_more bs i b (all_seen (take i bs)) (seen b) k q refl refl

-- Lists that are the same so far, and at the next place, are the same up to it.
pub seen_more : (xs bs : List (Option ScalarValue)) (i : ℕ) (a b : Option ScalarValue) → i < length xs → i < length bs → a ≡ get_or xs i a → b ≡ get_or bs i b → all_seen (take i xs) ≡ all_seen (take i bs) → seen a ≡ seen b
    → all_seen (take (i + 1) xs) ≡ all_seen (take (i + 1) bs)
seen_more xs bs i a b h k p q e f = same_take xs bs i a b h k p q e f

-- The same lists have the same value at each place.
pub seen_same : (xs bs : List (Option ScalarValue)) (i : ℕ) (a b : Option ScalarValue) → i < length xs → i < length bs → a ≡ get_or xs i a → b ≡ get_or bs i b → all_seen xs ≡ all_seen bs → seen a ≡ seen b
seen_same [] bs i a b h k p q e = absurd (omega (arith, h))
seen_same (x ∷ xs) [] i a b h k p q e = absurd (omega (arith, k))
seen_same (x ∷ xs) (y ∷ bs) zero a b h k p q e = ap (λ (z : Option ScalarValue). seen z) p ∙ heads (seen x) (seen y) (all_seen xs) (all_seen bs) e ∙ ap (λ (z : Option ScalarValue). seen z) (sym q)
seen_same (x ∷ xs) (y ∷ bs) (suc i) a b h k p q e = seen_same xs bs i a b (omega (arith, h)) (omega (arith, k)) p q (tails (seen x) (seen y) (all_seen xs) (all_seen bs) e)

-- Tuples are the same where their values are.
pub tuples_decide : (v w : ScalarValue) (x y xs ys : List Value) (b : Bool) → v ≡ S.Tuple x → w ≡ S.Tuple y → xs ≡ x → ys ≡ y → (IsTrue b ↔ (xs ≡ ys)) → IsTrue b ↔ (value_of v ≡ value_of w)
tuples_decide v w x y xs ys b e f p q h = (
  λ t. first ∙ ap (λ (zs : List Value). node tuple (roses_of zs)) (sym p ∙ h.0 t ∙ q) ∙ sym second,
  λ k. h.1 (p ∙ roses_of-injective x y (parts (roses_of x) (roses_of y) (sym first ∙ k ∙ second)) ∙ sym q),
)
  where
    first : value_of v ≡ node tuple (roses_of x)
    first = ap (λ (z : ScalarValue). value_of z) e

    second : value_of w ≡ node tuple (roses_of y)
    second = ap (λ (z : ScalarValue). value_of z) f

    parts : (us vs : Values) → node tuple us ≡ node tuple vs → us ≡ vs
    parts us vs k = cc

module _ (s u : Typed) (d e : Typ) (same_types : Bool) (p : d ≡ s.dtype) (q : e ≡ u.dtype) (h : same_types ≡ same typ_code d e) where
  -- Scalars of the same type are where their values are.
  pub scalars_decide : (v w : Value) (b : Bool) → v ≡ s.value → w ≡ u.value → same_types ≡ true → (IsTrue b ↔ (v ≡ w)) → IsTrue b ↔ (s ≡ u)
  scalars_decide v w b m n t k =
      let types : s.dtype ≡ u.dtype = sym p ∙ (same-decides typ_code d e).0 (sym h ∙ t) ∙ q in (
        λ y. let values : s.value ≡ u.value = sym m ∙ k.0 y ∙ n in λ i. record { dtype = types i; value = values i },
        λ y. k.1 (m ∙ ap (λ (z : Typed). z.value) y ∙ sym n),
      )

  -- Of others none are.
  pub scalars_differ : same_types ≡ false → IsTrue same_types ↔ (s ≡ u)
  scalars_differ t = (
    λ y. absurd (false≢true (sym t ∙ y)),
    λ y. absurd (false≢true (sym t ∙ h ∙ (same-decides typ_code d e).1 (p ∙ ap (λ (z : Typed). z.dtype) y ∙ sym q))),
  )

-- ---- cells

cells_push : (vs : List Value) (v : Value) → values_cells (roses_of (vs ++ v ∷ [])) ≡ values_cells (roses_of vs) + value_cells v
cells_push [] v = omega arith
cells_push (x ∷ vs) v = omega (arith, cells_push vs v)

-- The cells of one value more.
pub cells_next : (os : List (Option ScalarValue)) (i : ℕ) (o : Option ScalarValue) → i < length os → o ≡ get_or os i o → values_cells (roses_of (all_seen (take (i + 1) os))) ≡ values_cells (roses_of (all_seen (take i os))) + value_cells (seen o)
cells_next os i o h q = ap (λ (vs : List Value). values_cells (roses_of vs)) (sym (values_more os i o (all_seen (take i os)) (seen o) h q refl refl)) ∙ cells_push (all_seen (take i os)) (seen o)

-- They are not fewer than those of the first.
pub cells_before : (os : List (Option ScalarValue)) (i : ℕ) → values_cells (roses_of (all_seen (take i os))) ≤ values_cells (roses_of (all_seen os))
cells_before [] zero = omega arith
cells_before [] (suc i) = omega arith
cells_before (o ∷ os) zero = omega arith
cells_before (o ∷ os) (suc i) = omega (arith, cells_before os i)

pub cells_inside : (os : List (Option ScalarValue)) (i : ℕ) (o : Option ScalarValue) → i < length os → o ≡ get_or os i o → values_cells (roses_of (all_seen (take i os))) + value_cells (seen o) ≤ values_cells (roses_of (all_seen os))
cells_inside os i o h q = omega (arith, cells_next os i o h q, cells_before os (i + 1))

-- ---- the row of a typed child over a core's

-- The struct of a fallback that holds one.
same_structure : (o : Option Raw) → fallback_structure (fallback_of o) ≡ o
same_structure None = refl
same_structure (Some r) = refl

-- A fallback matters by its struct alone, where the typed value is not null.
tuple_by : (d : Typ) (vs : Values) (fb : Option Value) → merge d (node tuple vs) fb ≡ merge d (node tuple vs) (fallback_of (fallback_structure fb))
tuple_by (node (K.list m) (more e end)) vs fb = refl
tuple_by (node (K.fixed_size_list s m) (more e end)) vs fb = refl
tuple_by d vs fb = ap (λ (o : Option Raw). or_null (merged (node tuple vs) d o)) (sym (same_structure (fallback_structure fb)))

merge_by : (d : Typ) (m : Mark) (vs : Values) (fb : Option Value) → is_null (node m vs) ≡ false → merge d (node m vs) fb ≡ merge d (node m vs) (fallback_of (fallback_structure fb))
merge_by d null vs fb e = absurd (false≢true (sym e))
merge_by d tuple vs fb e = tuple_by d vs fb
merge_by d m vs fb e = ap (λ (o : Option Raw). or_null (merged (node m vs) d o)) (sym (same_structure (fallback_structure fb)))

pub merge_present : (d : Typ) (v : ScalarValue) (fb : Option Value) → merge d (value_of v) fb ≡ merge d (value_of v) (fallback_of (fallback_structure fb))
merge_present d (S.Bool b) fb = merge_by d (bool b) end fb refl
merge_present d (S.Primitive n) fb = merge_by d (number n) end fb refl
merge_present d (S.Decimal x) fb = merge_by d (decimal (decimal_of x)) end fb refl
merge_present d (S.Utf8 s) fb = merge_by d (utf8 s) end fb refl
merge_present d (S.Binary bs) fb = merge_by d (binary bs) end fb refl
merge_present d (S.Tuple vs) fb = merge_by d tuple (roses_of vs) fb refl
merge_present d (S.Union tag v) fb = merge_by d (union tag) (more v end) fb refl
merge_present d (S.Variant s) fb = merge_by d (variant s.dtype) (more s.value end) fb refl

-- A typed value over a core's row, unless the row hides it.
pub value_merged : (d : Typ) (v : ScalarValue) (c : Value) (w : Value) → hides d c ≡ false → merge d (value_of v) (fallback_of (fallback_structure (Some c))) ≡ w → w ≡ merged_over d (value_of v) c
value_merged d v (node opaque vs) w h e = sym e ∙ sym (ap (λ (b : Bool). if b then lone opaque else merge d (value_of v) None) h)
value_merged d v (node m vs) w h e = sym e ∙ sym (merge_present d v (Some (node m vs)))

pub value_hidden : (d : Typ) (v : Value) (c : Value) → hides d c ≡ true → lone opaque ≡ merged_over d v c
value_hidden d v (node opaque vs) h = sym (ap (λ (b : Bool). if b then lone opaque else merge d v None) h)
value_hidden d v (node m vs) h = absurd (false≢true h)

-- A typed row over a core's.
pub opaque_over : (d : Typ) (r : RowValue) (c : Value) (b : Bool) → b ≡ has_opaque (plain_value r) → b ≡ true → lone opaque ≡ row_over d (plain_value r) c
opaque_over d r c b q e = by_row r (sym q ∙ e)
  where
    chosen : (v : Value) → has_opaque v ≡ true → lone opaque ≡ (if has_opaque v then lone opaque else merged_over d v c)
    chosen v h = sym (ap (λ (z : Bool). if z then lone opaque else merged_over d v c) h)

    by_row : (r : RowValue) → has_opaque (plain_value r) ≡ true → lone opaque ≡ row_over d (plain_value r) c
    by_row R.Null h = absurd (false≢true h)
    by_row R.Opaque h = refl
    by_row (R.Bool x) h = absurd (false≢true h)
    by_row (R.Primitive x) h = absurd (false≢true h)
    by_row (R.Decimal x) h = absurd (false≢true h)
    by_row (R.Utf8 x) h = absurd (false≢true h)
    by_row (R.Binary x) h = absurd (false≢true h)
    by_row (R.Tuple rs) h = chosen (node tuple (roses_of rs)) h
    by_row (R.Union tag row) h = chosen (node (union tag) (more row end)) h
    by_row (R.Variant s) h = chosen (variant_of s.dtype s.value) h

pub null_over : (d : Typ) (v c : Value) → lone null ≡ v → c ≡ row_over d v c
null_over d v c e = ap (λ (z : Value). row_over d z c) e

pub present_over : (d : Typ) (x : ScalarValue) (v c w : Value) (b : Bool) → value_of x ≡ v → b ≡ has_opaque v → b ≡ false → w ≡ merged_over d (value_of x) c → w ≡ row_over d v c
present_over d x v c w b e q h m = m ∙ by_value x (ap (λ (z : Value). has_opaque z) e ∙ sym q ∙ h) ∙ ap (λ (z : Value). row_over d z c) e
  where
    chosen : (v : Value) → has_opaque v ≡ false → merged_over d v c ≡ (if has_opaque v then lone opaque else merged_over d v c)
    chosen v h = sym (ap (λ (z : Bool). if z then lone opaque else merged_over d v c) h)

    by_value : (x : ScalarValue) → has_opaque (value_of x) ≡ false → merged_over d (value_of x) c ≡ row_over d (value_of x) c
    by_value (S.Bool b) h = refl
    by_value (S.Primitive n) h = refl
    by_value (S.Decimal y) h = refl
    by_value (S.Utf8 s) h = refl
    by_value (S.Binary bs) h = refl
    by_value (S.Tuple vs) h = chosen (node tuple (roses_of vs)) h
    by_value (S.Union tag v) h = chosen (node (union tag) (more v end)) h
    by_value (S.Variant s) h = chosen (variant_of s.dtype s.value) h

-- ---- for the steps

pub ruleset opaque_rows = (opaque_more, opaque_here, row_take_all)

pub ruleset row_values = (rows_more, plain_at, row_take_all)

pub ruleset value_rows = (values_more, value_take_all)

pub ruleset value_spends = (cells_next, cells_inside, value_take_all)

pub ruleset same_values = (present_null, seen_more, seen_same, value_take_all)

pub ruleset values_over = (value_merged, value_hidden)

pub ruleset rows_over = (opaque_over, null_over, present_over)
