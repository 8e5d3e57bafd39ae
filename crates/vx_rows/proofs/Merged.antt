-- Merges: what fits, and the fields of a merged struct one by one.
use Rattle.std.proofs.Common.{ℕ, zero, suc, ◌≡◌, ◌<◌, ◌+◌, ◌||◌, List, [], ◌∷◌, ◌++◌, Option, Some, None, Bool, true, false, refl, sym, ap, ◌∙◌, subst, length, take, get_or, arith, add-one, append_assoc, bytes_eq, if◌then◌else◌}
use Rattle.std.proofs.lemmas.Bool.{false≢true}
use Rattle.std.proofs.lemmas.List.{append-nil}
use Rattle.std.proofs.lemmas.Option.{none-some}
use Rattle.std.proofs.lemmas.Slice.Eq.{bytes_eq-Decides}
use Rattle.vx_trees.specs.Rose.{Roses, node, end, more, count}
use Rattle.vx_types.specs.Fits.{Fits, FitParts, FitsMember, EachFits, FitBy, bare}
use Rattle.vx_types.specs.Kind as K
use Rattle.vx_types.specs.Kind.{Kind}
use Rattle.vx_types.specs.Typ.{Typ}
use Rattle.vx_types.specs.Words.{entries}
use Rattle.vx_types.specs.Value.{Value, Values, Mark, null, opaque, bool, number, decimal, utf8, binary, tuple, union, variant, variant_of, has_opaque, have_opaque, is_null}
use Rattle.vx_types.specs.declared.nullability.Nullability.TheVariants.{NonNullable}
use Rattle.vx_array_tree.specs.Merge.{Named, Raw, each_wrapped, first_named, given, is_named, kept, merged, merged_fields, names_of, others, raw_field, raw_value, structure_at, structure_of, types_of, values_of, variants, wrapped}
use Rattle.vx_array_tree.proofs.MergeFits.{IsGood, merge_good, fallback_good}
use Rattle.vx_rows.specs.Merging.{AreNamed, IsStructured, fallback_of, given_at, left_over, listed, merged_at, merged_structures, not_null, other_at}
use Rattle.vx_rows.specs.declared.named_variants.NamedVariants.{NamedVariants}

-- ---- what fits a type has nothing opaque in it

both_false : (a b : Bool) → a ≡ false → b ≡ false → (a || b) ≡ false
both_false a b p q = ap (λ z. z || b) p ∙ q

parts_plain : (vs : Values) (d : Typ) → ((e : Typ) → EachFits vs e → have_opaque vs ≡ false) → ((ts : Roses Kind) → FitBy vs ts → have_opaque vs ≡ false)
    → FitParts (count vs) (λ e. EachFits vs e) (λ ts. FitBy vs ts) d → have_opaque vs ≡ false
parts_plain vs (node (K.list m) (more e end)) each by f = each e f
parts_plain vs (node (K.fixed_size_list s m) (more e end)) each by f = each e f.1
parts_plain vs (node (K.structure ns m) ts) each by f = by ts f
parts_plain vs (node (K.map b m) (more x (more y end))) each by f = each (entries (record { key = x; value = y; keys_sorted = b })) f
parts_plain vs _ each by f = absurd f

member_plain : (tag : ℕ) (vs : Values) (d : Typ) → ((ts : Roses Kind) → FitBy vs ts → have_opaque vs ≡ false) → FitsMember tag (λ ts. FitBy vs ts) d → have_opaque vs ≡ false
member_plain tag vs (node (K.union ns ids m) ts) by f = by (more f.0 end) f.2
member_plain tag vs _ by f = absurd f

none_plain : (vs : Values) → vs ≡ end → have_opaque vs ≡ false
none_plain vs e = ap (λ (ws : Values). have_opaque ws) e

mutual
  pub plain : (v : Value) (d : Typ) → Fits v d → has_opaque v ≡ false
  plain (node null vs) d f = none_plain vs f.1
  plain (node opaque vs) d f = absurd f
  plain (node (bool b) vs) d f = none_plain vs f.1
  plain (node (number n) vs) d f = none_plain vs f.1
  plain (node (decimal x) vs) d f = none_plain vs f.1
  plain (node (utf8 bs) vs) d f = none_plain vs f.1
  plain (node (binary bs) vs) d f = none_plain vs f.1
  plain (node tuple vs) d f = parts_plain vs (bare d) (λ e g. each_plain vs e g) (λ ts g. by_plain vs ts g) f
  plain (node (union tag) vs) d f = member_plain tag vs (bare d) (λ ts g. by_plain vs ts g) f
  plain (node (variant e) vs) d f = by_plain vs (more e end) f.1

  each_plain : (vs : Values) (e : Typ) → EachFits vs e → have_opaque vs ≡ false
  each_plain end e f = refl
  each_plain (more v vs) e f = both_false (has_opaque v) (have_opaque vs) (plain v e f.0) (each_plain vs e f.1)

  by_plain : (vs : Values) (ts : Roses Kind) → FitBy vs ts → have_opaque vs ≡ false
  by_plain end ts f = refl
  by_plain (more v vs) end f = absurd f
  by_plain (more v vs) (more d ds) f = both_false (has_opaque v) (have_opaque vs) (plain v d f.0) (by_plain vs ds f.1)

pub ruleset plains = (plain)

good : (d : Typ) (v : Value) → Fits v d → IsGood d v
good d v f = record { fits = f; plain = plain v d f }

-- ---- names

same_name : (m n : List ℕ) → bytes_eq m n ≡ true → m ≡ n
same_name m n e = (bytes_eq-Decides m n).0 e

-- ---- fields of structures, one by one

-- The first typed field of a name, in the list of what is merged, is the first field of that name, merged.
first_step : (b : Bool) (name n : List ℕ) (t : Raw) (v : Value) (d : Typ) (r : Raw) (rest : Option Value) (found : Option (Typ × Value)) → bytes_eq name n ≡ b → rest ≡ merged_at name r found
    → (if b then merged v d (structure_at n r) else rest) ≡ merged_at name r (if b then Some (d, v) else found)
first_step true name n t v d r rest found e q = ap (λ (m : List ℕ). merged v d (structure_at m r)) (sym (same_name name n e))
first_step false name n t v d r rest found e q = q

first_is : (name : List ℕ) (r t : Raw) (vs : Values) (ns : List (List ℕ)) (ts : Roses Kind) → length ns ≡ count ts → FitBy vs ts → first_named name (merged_fields vs ns ts r) ≡ merged_at name r (raw_field name ns ts vs)
first_is name r t end [] ts l f = refl
first_is name r t end (n ∷ ns) end l f = refl
first_is name r t end (n ∷ ns) (more d ds) l f = absurd (cc)
first_is name r t (more v vs) [] ts l f = refl
first_is name r t (more v vs) (n ∷ ns) end l f = absurd f
first_is name r t (more v vs) (n ∷ ns) (more d ds) l f =
    first_step (bytes_eq name n) name n t v d r (first_named name (merged_fields vs ns ds r)) (raw_field name ns ds vs) refl (first_is name r t vs ns ds (omega (arith, l)) f.1)

given_is : (all : List (List ℕ × Option Value)) (g : List ℕ → Option Value) (r : Raw) → ((name : List ℕ) → first_named name all ≡ g name)
    → (vs : Values) (ns : List (List ℕ)) (ts : Roses Kind) → length ns ≡ count ts → FitBy vs ts → given all (merged_fields vs ns ts r) ≡ listed g ns
given_is all g r h end [] ts l f = refl
given_is all g r h end (n ∷ ns) ts l f = absurd (omega (arith, l, ap (λ (us : Roses Kind). count us) f))
given_is all g r h (more v vs) [] ts l f = refl
given_is all g r h (more v vs) (n ∷ ns) end l f = absurd f
given_is all g r h (more v vs) (n ∷ ns) (more d ds) l f =
    ap (λ (o : Option Value). kept n o ++ given all (merged_fields vs ns ds r)) (h n) ∙ ap (λ (xs : List Named). kept n (g n) ++ xs) (given_is all g r h vs ns ds (omega (arith, l)) f.1)

-- Nothing stands under a name of which nothing is listed.
kept_no : (b : Bool) (n m : List ℕ) (o : Option Value) (g : List ℕ → Option Value) (xs : List Named) → bytes_eq n m ≡ b → g n ≡ None → g m ≡ o → is_named n xs ≡ false → is_named n (kept m o ++ xs) ≡ false
kept_no b n m None g xs e z q h = h
kept_no true n m (Some v) g xs e z q h = absurd (none-some v (sym z ∙ ap (λ (k : List ℕ). g k) (same_name n m e) ∙ q))
kept_no false n m (Some v) g xs e z q h = ap (λ b. if b then true else is_named n xs) e ∙ h

not_named : (g : List ℕ → Option Value) (n : List ℕ) (ns : List (List ℕ)) → g n ≡ None → is_named n (listed g ns) ≡ false
not_named g n [] z = refl
not_named g n (m ∷ ms) z = kept_no (bytes_eq n m) n m (g m) g (listed g ms) refl z refl (not_named g n ms z)

-- What stands under a field's name is listed.
kept_yes : (b : Bool) (n m : List ℕ) (o : Option Value) (g : List ℕ → Option Value) (w : Value) (xs : List Named) → bytes_eq n m ≡ b → g n ≡ Some w → g m ≡ o → (b ≡ false → is_named n xs ≡ true) → is_named n (kept m o ++ xs) ≡ true
kept_yes true n m None g w xs e z q h = absurd (none-some w (sym q ∙ ap (λ (k : List ℕ). g k) (sym (same_name n m e)) ∙ z))
kept_yes false n m None g w xs e z q h = h refl
kept_yes true n m (Some v) g w xs e z q h = ap (λ b. if b then true else is_named n xs) e
kept_yes false n m (Some v) g w xs e z q h = ap (λ b. if b then true else is_named n xs) e ∙ h refl

named : (g : List ℕ → Option Value) (n : List ℕ) (w : Value) (ns : List (List ℕ)) (ts : Roses Kind) (vs : Values) (f : Typ × Value) → g n ≡ Some w → raw_field n ns ts vs ≡ Some f → is_named n (listed g ns) ≡ true
named g n w [] ts vs f z e = absurd (none-some _ e)
named g n w (m ∷ ms) end vs f z e = absurd (none-some _ e)
named g n w (m ∷ ms) (more t ts) end f z e = absurd (none-some _ e)
named g n w (m ∷ ms) (more t ts) (more v vs) f z e =
    kept_yes (bytes_eq n m) n m (g m) g w (listed g ms) refl z refl
    (λ q. named g n w ms ts vs f z (subst (λ b. (if b then Some (t, v) else raw_field n ms ts vs) ≡ Some f) q e))

-- A value that is not null merges to a variant.
merged_some : (m : Mark) (vs : Values) (d : Typ) (raw : Option Raw) → is_null (node m vs) ≡ false → (w : Value) × (merged (node m vs) d raw ≡ Some w)
merged_some null vs d raw e = absurd (false≢true (sym e))
merged_some tuple vs d raw e = (_, refl)
merged_some m vs d raw e = (wrapped d (node m vs), refl)

-- A field that is not null is a field.
not_null_is : (m : Mark) (vs : Values) (d : Typ) → is_null (node m vs) ≡ false → not_null (Some (d, node m vs)) ≡ Some (d, node m vs)
not_null_is null vs d e = absurd (false≢true (sym e))
not_null_is m vs d e = refl

raw_value_is : (o : Option (Typ × Value)) → raw_value o ≡ left_over None (not_null o)
raw_value_is None = refl
raw_value_is (Some (d, node null vs)) = refl
raw_value_is (Some (d, node m vs)) = refl

-- The fields of a raw struct that are not given, one by one.
other_step : (n : List ℕ) (t r : Raw) (o p : Option (Typ × Value)) → raw_field n t.names t.types t.values ≡ o
    → (if is_named n (listed (given_at t r) t.names) then [] else kept n (raw_value p)) ≡ kept n (left_over (not_null o) (not_null p))
other_step n t r None p e =
    let z : given_at t r n ≡ None = ap (λ (x : Option (Typ × Value)). merged_at n r x) e in
    ap (λ b. if b then [] else kept n (raw_value p)) (not_named (given_at t r) n t.names z) ∙ ap (λ (x : Option Value). kept n x) (raw_value_is p)
other_step n t r (Some (d, node null vs)) p e =
    let z : given_at t r n ≡ None = ap (λ (x : Option (Typ × Value)). merged_at n r x) e in
    ap (λ b. if b then [] else kept n (raw_value p)) (not_named (given_at t r) n t.names z) ∙ ap (λ (x : Option Value). kept n x) (raw_value_is p)
other_step n t r (Some (d, node m vs)) p e =
    let w = merged_some m vs d (structure_at n r) refl in
    let z : given_at t r n ≡ Some w.0 = ap (λ (x : Option (Typ × Value)). merged_at n r x) e ∙ w.1 in
    ap (λ b. if b then [] else kept n (raw_value p)) (named (given_at t r) n w.0 t.names t.types t.values (d, node m vs) z e)

others_are : (t r : Raw) (ns : List (List ℕ)) → others (listed (given_at t r) t.names) r ns ≡ listed (other_at t r) ns
others_are t r [] = refl
others_are t r (n ∷ ns) =
    ap (λ (xs : List Named). xs ++ others (listed (given_at t r) t.names) r ns)
    (other_step n t r (raw_field n t.names t.types t.values) (raw_field n r.names r.types r.values) refl)
    ∙ ap (λ (xs : List Named). kept n (other_at t r n) ++ xs) (others_are t r ns)

-- All fields of two structs that are merged.
abbrev pub all_fields : Raw → Raw → List Named
all_fields t r = listed (given_at t r) t.names ++ listed (other_at t r) r.names

pub joined_is : (t r : Raw) → IsStructured t → merged_structures t r ≡ structure_of (all_fields t r)
joined_is t r s =
    let all = merged_fields t.values t.names t.types r in
    let g : given all all ≡ listed (given_at t r) t.names =
    given_is all (given_at t r) r (λ name. first_is name r t t.values t.names t.types s.named s.fits) t.values t.names t.types s.named s.fits in
    ap (λ (has : List Named). structure_of (has ++ others has r r.names)) g ∙ ap (λ (xs : List Named). structure_of (listed (given_at t r) t.names ++ xs)) (others_are t r r.names)

-- They fit.
raw_good : (r : Raw) → FitBy r.values r.types → IsGood variants (variant_of (node (K.structure r.names NonNullable) r.types) (node tuple r.values))
raw_good r f = good variants (variant_of (node (K.structure r.names NonNullable) r.types) (node tuple r.values)) (tt, (f, refl))

pub joined_fits : (t r : Raw) → IsStructured t → IsStructured r → Fits (node tuple (values_of (all_fields t r))) (node (K.structure (names_of (all_fields t r)) NonNullable) (types_of (all_fields t r)))
joined_fits t r s u =
    let d = node (K.structure t.names NonNullable) t.types in
    let g = merge_good d (node tuple t.values) (fallback_of (Some r)) (good d (node tuple t.values) s.fits) refl
    (fallback_good NonNullable (variant_of (node (K.structure r.names NonNullable) r.types) (node tuple r.values)) (raw_good r u.fits)) in
    (subst (λ (w : Value). Fits w variants) (joined_is t r s) g.fits).1.0

-- ---- lists of fields

kept_more : (name : List ℕ) (o : Option Value) (xs ys : List Named) → (kept name o ++ xs) ++ ys ≡ kept name o ++ (xs ++ ys)
kept_more name o xs ys = append_assoc (kept name o) xs ys

listed_next : (g : List ℕ → Option Value) (ns : List (List ℕ)) (i : ℕ) (n : List ℕ) → i < length ns → n ≡ get_or ns i n → listed g (take (suc i) ns) ≡ listed g (take i ns) ++ kept n (g n)
listed_next g [] i n h e = absurd (omega (arith, h))
listed_next g (m ∷ ns) zero n h e = nothing_after (kept m (g m)) ∙ ap (λ (k : List ℕ). kept k (g k)) (sym e)
  where
    nothing_after : (xs : List Named) → xs ++ [] ≡ xs
    nothing_after [] = refl
    nothing_after (x ∷ xs) = ap (λ (ys : List Named). x ∷ ys) (nothing_after xs)
listed_next g (m ∷ ns) (suc i) n h e =
    ap (λ (xs : List Named). kept m (g m) ++ xs) (listed_next g ns i n (omega (arith, h)) e) ∙ sym (append_assoc (kept m (g m)) (listed g (take i ns)) (kept n (g n)))

-- One name more.
pub listed_more : (g : List ℕ → Option Value) (ns : List (List ℕ)) (i : ℕ) (n : List ℕ) → i < length ns → n ≡ get_or ns i n → listed g (take (i + 1) ns) ≡ listed g (take i ns) ++ kept n (g n)
listed_more g ns i n h e = rw (add-one i) (listed_next g ns i n h e)

after : (g : List ℕ → Option Value) (ns : List (List ℕ)) (i : ℕ) (n : List ℕ) (fs : List Named) (o : Option Value) → i < length ns → n ≡ get_or ns i n → g n ≡ o → (fs ++ listed g (take i ns)) ++ kept n o ≡ fs ++ listed g (take (i + 1) ns)
after g ns i n fs o h e z =
    append_assoc fs (listed g (take i ns)) (kept n o)
    ∙ ap (λ (xs : List Named). fs ++ xs) (ap (λ (x : Option Value). listed g (take i ns) ++ kept n x) (sym z) ∙ sym (listed_more g ns i n h e))

-- What is gathered with what stands under one name more.
pub step_on : (g : List ℕ → Option Value) (ns : List (List ℕ)) (i : ℕ) (n : List ℕ) (fs : List Named) (b : NamedVariants) (o : Option Value) → i < length ns → n ≡ get_or ns i n → g n ≡ o
    → AreNamed b ((fs ++ listed g (take i ns)) ++ kept n o) → AreNamed b (fs ++ listed g (take (i + 1) ns))
step_on g ns i n fs b o h e z p = subst (λ (xs : List Named). AreNamed b xs) (after g ns i n fs o h e z) p

-- Where nothing does, it is the same.
pub step_past : (g : List ℕ → Option Value) (ns : List (List ℕ)) (i : ℕ) (n : List ℕ) (fs : List Named) (b : NamedVariants) → i < length ns → n ≡ get_or ns i n → g n ≡ None
    → AreNamed b (fs ++ listed g (take i ns)) → AreNamed b (fs ++ listed g (take (i + 1) ns))
step_past g ns i n fs b h e z p = step_on g ns i n fs b None h e z (subst (λ (xs : List Named). AreNamed b xs) (sym (append-nil (fs ++ listed g (take i ns)))) p)

-- ---- lists of variants

-- The elements of a list of variants are such.
pub each_fit : (e : Typ) (vs ws : Values) → ws ≡ each_wrapped e vs → EachFits vs e → EachFits ws variants
each_fit e vs ws q f =
    let d = node (K.list NonNullable) (more e end) in
    subst (λ (xs : Values). EachFits xs variants) (sym q) ((merge_good d (node tuple vs) None (good d (node tuple vs) f) refl tt).fits.1.0)

pub list_fits : (d : Typ) (ws : Values) → d ≡ node (K.list NonNullable) (more variants end) → EachFits ws variants → Fits (node tuple ws) d
list_fits d ws e f = subst (λ (z : Typ). Fits (node tuple ws) z) (sym e) f
