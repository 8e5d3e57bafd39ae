-- The texts of rows with rows in them, one text more at a time.
use Rattle.std.proofs.Common.{ℕ, zero, suc, ◌≡◌, ◌≢◌, ◌≤◌, ◌<◌, ◌+◌, min, Bool, true, false, List, [], ◌∷◌, ◌++◌, codes, refl, sym, ap, ◌∙◌, length, take, get_or, arith, add-one, append_assoc}
use Rattle.std.specs.Prelude.{◌==◌, if◌then◌else◌}
use Rattle.std.specs.List.{flat_map}
use Rattle.std.proofs.lemmas.List.{append-nil}
use Rattle.std.proofs.lemmas.Grind.{flat_map-append}
use Rattle.vx_trees.specs.Rose.{node, roses_of}
use Rattle.vx_trees.specs.Walks.{nodes, nodes_of}
use Rattle.vx_types.specs.Seen.{typ, typs}
use Rattle.vx_types.specs.Typ.{Typ}
use Rattle.vx_types.specs.Value.{Value, tuple}
use Rattle.vx_types.specs.declared.dtype.DType.{DType}
use Rattle.vx_rows.specs.Plain.{plain_value, plain_values}
use Rattle.vx_rows.specs.declared.row.RowValue.{RowValue}
use Rattle.vx_rows.specs.declared.row.RowValue.TheVariants as R
use Rattle.vxcat_store.specs.RowText.{each_text, entry_text, entry_texts, further_text, parted, texts_by, value_text}

-- ---- the measure of the recursion

-- A value in a list has no more nodes than the list.
pub smaller_value : (vs : List RowValue) (i : ℕ) (v : RowValue) → i < length vs → v ≡ get_or vs i v → nodes (plain_value v) ≤ nodes_of (roses_of (plain_values vs))
smaller_value [] i v h q = absurd (omega (arith, h))
smaller_value (u ∷ vs) zero v h q = let e : nodes (plain_value v) ≡ nodes (plain_value u) = ap (λ (w : RowValue). nodes (plain_value w)) q in omega (arith, e)
smaller_value (u ∷ vs) (suc i) v h q = let g : i < length vs = omega (arith, h) in omega (arith, smaller_value vs i v g q)

-- ---- texts that are split

abbrev pub is_first : List (List ℕ) → Bool
is_first [] = true
is_first (text ∷ texts) = false

-- One more text after the others.
parted-more : (texts : List (List ℕ)) (text : List ℕ) → parted (texts ++ text ∷ []) ≡ parted texts ++ (if is_first texts then text else further_text text)
parted-more [] text = append-nil text
parted-more (first ∷ texts) text =
    ap (λ (r : List ℕ). first ++ r) (flat_map-append further_text texts (text ∷ []) ∙ ap (λ (r : List ℕ). flat_map further_text texts ++ r) (append-nil (further_text text)))
    ∙ sym (append_assoc first (flat_map further_text texts) (further_text text))

-- A step of a loop over texts.
next_parted : (before after : List (List ℕ)) (text old new : List ℕ) (first : Bool) → after ≡ before ++ text ∷ [] → is_first before ≡ first → old ≡ parted before
    → new ≡ old ++ (if first then text else further_text text) → new ≡ parted after
next_parted before after text old new first more_is first_is old_is new_is =
    new_is ∙ ap (λ (r : List ℕ). r ++ (if first then text else further_text text)) old_is
    ∙ ap (λ (b : Bool). parted before ++ (if b then text else further_text text)) (sym first_is)
    ∙ sym (parted-more before text) ∙ sym (ap (λ (texts : List (List ℕ)). parted texts) more_is)

not_first : (i : ℕ) → false ≡ (suc i == 0)
not_first i = grind arith

-- ---- values of one type

each_more : (vs : List RowValue) (i : ℕ) (v : RowValue) (d : Typ) → i < length vs → v ≡ get_or vs i v
    → each_text (roses_of (plain_values (take (suc i) vs))) d ≡ each_text (roses_of (plain_values (take i vs))) d ++ value_text (plain_value v) d ∷ []
each_more [] i v d h q = absurd (omega (arith, h))
each_more (u ∷ vs) zero v d h q = ap (λ (w : RowValue). value_text (plain_value w) d ∷ []) (sym q)
each_more (u ∷ vs) (suc i) v d h q = let g : i < length vs = omega (arith, h) in ap (λ (r : List (List ℕ)). value_text (plain_value u) d ∷ r) (each_more vs i v d g q)

each_first : (vs : List RowValue) (i : ℕ) (d : Typ) → i < length vs → is_first (each_text (roses_of (plain_values (take i vs))) d) ≡ (i == 0)
each_first [] i d h = absurd (omega (arith, h))
each_first (u ∷ vs) zero d h = refl
each_first (u ∷ vs) (suc i) d h = not_first i

pub each_next : (vs : List RowValue) (i : ℕ) (v : RowValue) (d : Typ) (text old new : List ℕ) → i < length vs → v ≡ get_or vs i v → text ≡ value_text (plain_value v) d
    → old ≡ parted (each_text (roses_of (plain_values (take i vs))) d) → new ≡ old ++ (if i == 0 then text else further_text text)
    → new ≡ parted (each_text (roses_of (plain_values (take (i + 1) vs))) d)
each_next vs i v d text old new h q text_is old_is new_is =
    rw (add-one i)
    (next_parted (each_text (roses_of (plain_values (take i vs))) d) (each_text (roses_of (plain_values (take (suc i) vs))) d) text old new (i == 0)
    (each_more vs i v d h q ∙ ap (λ (t : List ℕ). each_text (roses_of (plain_values (take i vs))) d ++ t ∷ []) (sym text_is)) (each_first vs i d h) old_is new_is)

-- ---- values each of a type

by_more : (vs : List RowValue) (ds : List DType) (i : ℕ) (v : RowValue) (d : DType) → i < length vs → i < length ds → v ≡ get_or vs i v → d ≡ get_or ds i d
    → texts_by (roses_of (plain_values (take (suc i) vs))) (roses_of (typs (take (suc i) ds)))
    ≡ texts_by (roses_of (plain_values (take i vs))) (roses_of (typs (take i ds))) ++ value_text (plain_value v) (typ d) ∷ []
by_more [] ds i v d h k q p = absurd (omega (arith, h))
by_more (u ∷ vs) [] i v d h k q p = absurd (omega (arith, k))
by_more (u ∷ vs) (e ∷ ds) zero v d h k q p =
    ap (λ (w : RowValue). value_text (plain_value w) (typ e) ∷ []) (sym q) ∙ ap (λ (x : DType). value_text (plain_value v) (typ x) ∷ []) (sym p)
by_more (u ∷ vs) (e ∷ ds) (suc i) v d h k q p =
    let g : i < length vs = omega (arith, h) in
    let f : i < length ds = omega (arith, k) in
    ap (λ (r : List (List ℕ)). value_text (plain_value u) (typ e) ∷ r) (by_more vs ds i v d g f q p)

by_first : (vs : List RowValue) (ds : List DType) (i : ℕ) → i < length vs → i < length ds → is_first (texts_by (roses_of (plain_values (take i vs))) (roses_of (typs (take i ds)))) ≡ (i == 0)
by_first [] ds i h k = absurd (omega (arith, h))
by_first (u ∷ vs) [] i h k = absurd (omega (arith, k))
by_first (u ∷ vs) (e ∷ ds) zero h k = refl
by_first (u ∷ vs) (e ∷ ds) (suc i) h k = not_first i

pub by_next : (vs : List RowValue) (ds : List DType) (i : ℕ) (v : RowValue) (d : DType) (text old new : List ℕ) → i < length vs → i < length ds → v ≡ get_or vs i v → d ≡ get_or ds i d
    → text ≡ value_text (plain_value v) (typ d) → old ≡ parted (texts_by (roses_of (plain_values (take i vs))) (roses_of (typs (take i ds))))
    → new ≡ old ++ (if i == 0 then text else further_text text) → new ≡ parted (texts_by (roses_of (plain_values (take (i + 1) vs))) (roses_of (typs (take (i + 1) ds))))
by_next vs ds i v d text old new h k q p text_is old_is new_is =
    let before = texts_by (roses_of (plain_values (take i vs))) (roses_of (typs (take i ds))) in
    rw (add-one i)
    (next_parted before (texts_by (roses_of (plain_values (take (suc i) vs))) (roses_of (typs (take (suc i) ds)))) text old new (i == 0)
    (by_more vs ds i v d h k q p ∙ ap (λ (t : List ℕ). before ++ t ∷ []) (sym text_is)) (by_first vs ds i h k) old_is new_is)

-- Past the shorter of the lists there is no text more.
pub by_all : (vs : List RowValue) (ds : List DType) (i : ℕ) → min (length vs) (length ds) ≤ i
    → texts_by (roses_of (plain_values (take i vs))) (roses_of (typs (take i ds))) ≡ texts_by (roses_of (plain_values vs)) (roses_of (typs ds))
by_all [] ds zero h = refl
by_all [] ds (suc i) h = refl
by_all (u ∷ vs) [] zero h = refl
by_all (u ∷ vs) [] (suc i) h = refl
by_all (u ∷ vs) (e ∷ ds) zero h = absurd (omega (arith, h))
by_all (u ∷ vs) (e ∷ ds) (suc i) h =
    let g : min (length vs) (length ds) ≤ i = omega (arith, h) in
    ap (λ (r : List (List ℕ)). value_text (plain_value u) (typ e) ∷ r) (by_all vs ds i g)

-- ---- entries

entries_more : (vs : List RowValue) (i : ℕ) (v : RowValue) (x y : Typ) → i < length vs → v ≡ get_or vs i v
    → entry_texts (roses_of (plain_values (take (suc i) vs))) x y ≡ entry_texts (roses_of (plain_values (take i vs))) x y ++ entry_text (plain_value v) x y ∷ []
entries_more [] i v x y h q = absurd (omega (arith, h))
entries_more (u ∷ vs) zero v x y h q = ap (λ (w : RowValue). entry_text (plain_value w) x y ∷ []) (sym q)
entries_more (u ∷ vs) (suc i) v x y h q = let g : i < length vs = omega (arith, h) in ap (λ (r : List (List ℕ)). entry_text (plain_value u) x y ∷ r) (entries_more vs i v x y g q)

entries_first : (vs : List RowValue) (i : ℕ) (x y : Typ) → i < length vs → is_first (entry_texts (roses_of (plain_values (take i vs))) x y) ≡ (i == 0)
entries_first [] i x y h = absurd (omega (arith, h))
entries_first (u ∷ vs) zero x y h = refl
entries_first (u ∷ vs) (suc i) x y h = not_first i

pub entries_next : (vs : List RowValue) (i : ℕ) (v : RowValue) (x y : Typ) (text old new : List ℕ) → i < length vs → v ≡ get_or vs i v → text ≡ entry_text (plain_value v) x y
    → old ≡ parted (entry_texts (roses_of (plain_values (take i vs))) x y) → new ≡ old ++ (if i == 0 then text else further_text text)
    → new ≡ parted (entry_texts (roses_of (plain_values (take (i + 1) vs))) x y)
entries_next vs i v x y text old new h q text_is old_is new_is =
    let before = entry_texts (roses_of (plain_values (take i vs))) x y in
    rw (add-one i)
    (next_parted before (entry_texts (roses_of (plain_values (take (suc i) vs))) x y) text old new (i == 0)
    (entries_more vs i v x y h q ∙ ap (λ (t : List ℕ). before ++ t ∷ []) (sym text_is)) (entries_first vs i x y h) old_is new_is)

-- The value of a row that is a tuple of these.
pub tuple_is : (value : RowValue) (parts : List Value) (ps : List RowValue) → value ≡ R.Tuple parts → plain_values ps ≡ parts → plain_value value ≡ node tuple (roses_of (plain_values ps))
tuple_is value parts ps is same = ap plain_value is ∙ ap (λ (vs : List Value). node tuple (roses_of vs)) (sym same)

-- An entry that is no pair.
pub no_pair : (ps : List RowValue) (x y : Typ) → length ps ≢ 2 → entry_text (node tuple (roses_of (plain_values ps))) x y ≡ codes "?"
no_pair [] x y h = refl
no_pair (a ∷ []) x y h = refl
no_pair (a ∷ b ∷ []) x y h = absurd (h refl)
no_pair (a ∷ b ∷ c ∷ ps) x y h = refl

-- An entry is its key's text and its value's.
pub pair_text : (ps : List RowValue) (a b : RowValue) (x y : Typ) → length ps ≡ 2 → a ≡ get_or ps 0 a → b ≡ get_or ps 1 b
    → entry_text (node tuple (roses_of (plain_values ps))) x y ≡ value_text (plain_value a) x ++ (codes "=>" ++ value_text (plain_value b) y)
pair_text [] a b x y h p q = absurd (omega (arith, h))
pair_text (k ∷ []) a b x y h p q = absurd (omega (arith, h))
pair_text (k ∷ v ∷ []) a b x y h p q =
    ap (λ (w : RowValue). value_text (plain_value w) x ++ (codes "=>" ++ value_text (plain_value v) y)) (sym p)
    ∙ ap (λ (w : RowValue). value_text (plain_value a) x ++ (codes "=>" ++ value_text (plain_value w) y)) (sym q)
pair_text (k ∷ v ∷ w ∷ ps) a b x y h p q = absurd (omega (arith, h))
