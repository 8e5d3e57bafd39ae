-- Fields of structs that are borrowed, found by their names and gathered.
use Rattle.std.proofs.Common.{ℕ, zero, suc, ◌≡◌, ◌<◌, ◌≤◌, ◌+◌, List, [], ◌∷◌, ◌++◌, Option, Some, None, Bool, true, false, Result, Ok, OnOk, refl, sym, ap, ◌∙◌, subst, length, drop, take, get_or, arith, add-one, bytes_eq, if◌then◌else◌}
use Rattle.std.proofs.lemmas.List.{append-nil}
use Rattle.std.proofs.lemmas.Option.{none-some}
use Rattle.vx_trees.specs.Rose.{Roses, node, end, more, count, roses_of}
use Rattle.vx_trees.specs.Walks.{nodes, nodes_of}
use Rattle.vx_trees.proofs.Counting.{nodes-at}
use Rattle.vx_trees.proofs.Lists.{count-roses_of}
use Rattle.vx_trees.proofs.LawsOfRoses.{first_tree, other_trees, never_end}
use Rattle.vx_types.specs.Fits.{Fits, EachFits, FitBy}
use Rattle.vx_types.specs.Kind.{Kind, structure}
use Rattle.vx_types.specs.Seen.{typ, typs}
use Rattle.vx_types.specs.Typ.{Typ}
use Rattle.vx_types.specs.Value.{Value, Values, tuple}
use Rattle.vx_types.specs.Value as V
use Rattle.vx_types.specs.declared.dtype.DType.{DType}
use Rattle.vx_types.specs.declared.nullability.Nullability.TheVariants.{NonNullable}
use Rattle.vx_types.proofs.LawsOfTypes.{typs-at, typs-length}
use Rattle.vx_scalars.specs.Seen.{all_seen, seen, value_of}
use Rattle.vx_scalars.specs.Told.{Typed}
use Rattle.vx_scalars.specs.declared.value.ScalarValue.{ScalarValue}
use Rattle.vx_scalars.specs.declared.value.ScalarValue.TheVariants as S
use Rattle.vx_scalars.proofs.LawsOfLists.{by-at, seen-at, seen-length}
use Rattle.vx_array_tree.specs.Merge.{Named, Raw, each_wrapped, kept, merged, names_of, raw_field, structure_at, types_of, values_of, variants, wrapped}
use Rattle.vx_rows.specs.Merging.{AreNamed, given_at, left_over, merged_at, not_null, other_at}
use Rattle.vx_rows.specs.declared.named_variants.NamedVariants.{NamedVariants}

-- ---- a field by its name

next_field : (b : Bool) (f : Typ × Value) (o : Option (Typ × Value)) → b ≡ false → (if b then Some f else o) ≡ o
next_field b f o e = ap (λ c. if c then Some f else o) e

this_field : (b : Bool) (f : Typ × Value) (o : Option (Typ × Value)) → b ≡ true → (if b then Some f else o) ≡ Some f
this_field b f o e = ap (λ c. if c then Some f else o) e

next_suc : (name : List ℕ) (ns : List (List ℕ)) (ts : List Typ) (vs : List Value) (i : ℕ) (n : List ℕ) → i < length ns → i < length ts → i < length vs → bytes_eq name (get_or ns i n) ≡ false
    → raw_field name (drop i ns) (roses_of (drop i ts)) (roses_of (drop i vs)) ≡ raw_field name (drop (suc i) ns) (roses_of (drop (suc i) ts)) (roses_of (drop (suc i) vs))
next_suc name [] ts vs i n h k l e = absurd (omega (arith, h))
next_suc name (m ∷ ns) [] vs i n h k l e = absurd (omega (arith, k))
next_suc name (m ∷ ns) (t ∷ ts) [] i n h k l e = absurd (omega (arith, l))
next_suc name (m ∷ ns) (t ∷ ts) (v ∷ vs) zero n h k l e = next_field (bytes_eq name m) (t, v) (raw_field name ns (roses_of ts) (roses_of vs)) e
next_suc name (m ∷ ns) (t ∷ ts) (v ∷ vs) (suc i) n h k l e = next_suc name ns ts vs i n (omega (arith, h)) (omega (arith, k)) (omega (arith, l)) e

here_suc : (name : List ℕ) (ns : List (List ℕ)) (ts : List Typ) (vs : List Value) (i : ℕ) (n : List ℕ) (t : Typ) (v : Value) → i < length ns → i < length ts → i < length vs → bytes_eq name (get_or ns i n) ≡ true
    → raw_field name (drop i ns) (roses_of (drop i ts)) (roses_of (drop i vs)) ≡ Some (get_or ts i t, get_or vs i v)
here_suc name [] ts vs i n t v h k l e = absurd (omega (arith, h))
here_suc name (m ∷ ns) [] vs i n t v h k l e = absurd (omega (arith, k))
here_suc name (m ∷ ns) (u ∷ ts) [] i n t v h k l e = absurd (omega (arith, l))
here_suc name (m ∷ ns) (u ∷ ts) (w ∷ vs) zero n t v h k l e = this_field (bytes_eq name m) (u, w) (raw_field name ns (roses_of ts) (roses_of vs)) e
here_suc name (m ∷ ns) (u ∷ ts) (w ∷ vs) (suc i) n t v h k l e = here_suc name ns ts vs i n t v (omega (arith, h)) (omega (arith, k)) (omega (arith, l)) e

none_without : (name : List ℕ) (ns : List (List ℕ)) (ts : Roses Kind) → raw_field name ns ts end ≡ None
none_without name [] ts = refl
none_without name (n ∷ ns) end = refl
none_without name (n ∷ ns) (more t ts) = refl

none_untyped : (name : List ℕ) (ns : List (List ℕ)) (vs : Values) → raw_field name ns end vs ≡ None
none_untyped name [] vs = refl
none_untyped name (n ∷ ns) vs = refl

none_left : (name : List ℕ) (ns : List (List ℕ)) (ts : List Typ) (vs : List Value) (i : ℕ) → length ns ≤ i → raw_field name (drop i ns) (roses_of (drop i ts)) (roses_of (drop i vs)) ≡ None
none_left name [] ts vs zero h = refl
none_left name [] ts vs (suc i) h = refl
none_left name (n ∷ ns) ts vs zero h = absurd (omega (arith, h))
none_left name (n ∷ ns) [] vs (suc i) h = none_untyped name (drop i ns) (roses_of (drop (suc i) vs))
none_left name (n ∷ ns) (t ∷ ts) [] (suc i) h = none_without name (drop i ns) (roses_of (drop i ts))
none_left name (n ∷ ns) (t ∷ ts) (v ∷ vs) (suc i) h = none_left name ns ts vs i (omega (arith, h))

-- The search for a field: what is left finds what the whole does.
abbrev pub Searches : List ℕ → List (List ℕ) → List DType → List (Option ScalarValue) → ℕ → Type 0
Searches name ns ds ws i =
    raw_field name (drop i ns) (roses_of (drop i (typs ds))) (roses_of (drop i (all_seen ws))) ≡ raw_field name ns (roses_of (typs ds)) (roses_of (all_seen ws))

-- A field of another name is not the one.
pub search_on : (name : List ℕ) (ns : List (List ℕ)) (ds : List DType) (ws : List (Option ScalarValue)) (i : ℕ) (n : List ℕ) → i < length ns → i < length ds → i < length ws → n ≡ get_or ns i n → bytes_eq name n ≡ false
    → Searches name ns ds ws i → Searches name ns ds ws (i + 1)
search_on name ns ds ws i n h k l q e s =
    rw (add-one i)
    (sym (next_suc name ns (typs ds) (all_seen ws) i n h (omega (arith, k, typs-length ds)) (omega (arith, l, seen-length ws)) (ap (λ (m : List ℕ). bytes_eq name m) (sym q) ∙ e)) ∙ s)

-- A field of the name is the one.
pub search_hits : (name : List ℕ) (ns : List (List ℕ)) (ds : List DType) (ws : List (Option ScalarValue)) (i : ℕ) (n : List ℕ) (d : DType) (o : Option ScalarValue)
    → i < length ns → i < length ds → i < length ws → n ≡ get_or ns i n → d ≡ get_or ds i d → o ≡ get_or ws i o → bytes_eq name n ≡ true → Searches name ns ds ws i
    → raw_field name ns (roses_of (typs ds)) (roses_of (all_seen ws)) ≡ Some (typ d, seen o)
search_hits name ns ds ws i n d o h k l q x y e s =
    sym s ∙ here_suc name ns (typs ds) (all_seen ws) i n (typ d) (seen o) h (omega (arith, k, typs-length ds)) (omega (arith, l, seen-length ws)) (ap (λ (m : List ℕ). bytes_eq name m) (sym q) ∙ e)
    ∙ (λ j. Some ((typs-at ds i d ∙ ap (λ (z : DType). typ z) (sym x)) j, (seen-at ws i o ∙ ap (λ (z : Option ScalarValue). seen z) (sym y)) j))

-- Where none is left there is none.
pub search_ends : (name : List ℕ) (ns : List (List ℕ)) (ds : List DType) (ws : List (Option ScalarValue)) (i : ℕ) → length ns ≤ i → Searches name ns ds ws i → raw_field name ns (roses_of (typs ds)) (roses_of (all_seen ws)) ≡ None
search_ends name ns ds ws i h s = sym s ∙ none_left name ns (typs ds) (all_seen ws) i h

-- A value that is not null makes a field that is not.
pub not_null_value : (d : Typ) (v : ScalarValue) → not_null (Some (d, value_of v)) ≡ Some (d, value_of v)
not_null_value d (S.Bool b) = refl
not_null_value d (S.Primitive n) = refl
not_null_value d (S.Decimal x) = refl
not_null_value d (S.Utf8 s) = refl
not_null_value d (S.Binary bs) = refl
not_null_value d (S.Tuple vs) = refl
not_null_value d (S.Union tag v) = refl
not_null_value d (S.Variant s) = refl

-- Of a struct as it is borrowed: a name for each type and for each value.
pub same_counts : (r : Raw) (ns : List (List ℕ)) (ds : List DType) (ws : List (Option ScalarValue)) → ns ≡ r.names → roses_of (typs ds) ≡ r.types → roses_of (all_seen ws) ≡ r.values → length r.names ≡ count r.types → FitBy r.values r.types
    → (length ns ≡ length ds) × (length ns ≡ length ws)
same_counts r ns ds ws a b c e f =
    let x : length ns ≡ length ds = ap (λ (z : List (List ℕ)). length z) a ∙ e ∙ ap (λ (z : Roses Kind). count z) (sym b) ∙ count-roses_of (typs ds) ∙ typs-length ds in
    let y : count r.values ≡ count r.types = by_count r.values r.types f in
    (x, ap (λ (z : List (List ℕ)). length z) a ∙ e ∙ sym y ∙ ap (λ (z : Values). count z) (sym c) ∙ count-roses_of (all_seen ws) ∙ seen-length ws)
  where
    by_count : (vs : Values) (ts : Roses Kind) → FitBy vs ts → count vs ≡ count ts
    by_count end ts f = ap (λ (z : Roses Kind). count z) (sym f)
    by_count (more v vs) end f = absurd f
    by_count (more v vs) (more t ts) f = ap (λ n. suc n) (by_count vs ts f.1)

-- The field that is found is one of the struct's.
pub found_in : (r : Raw) (name : List ℕ) (ns : List (List ℕ)) (ds : List DType) (ws : List (Option ScalarValue)) (o : Option (Typ × Value)) → ns ≡ r.names → roses_of (typs ds) ≡ r.types → roses_of (all_seen ws) ≡ r.values
    → raw_field name ns (roses_of (typs ds)) (roses_of (all_seen ws)) ≡ o → raw_field name r.names r.types r.values ≡ o
found_in r name ns ds ws o a b c e = (λ i. raw_field name (sym a i) (sym b i) (sym c i)) ∙ e

pub fits_at : (r : Raw) (ds : List DType) (ws : List (Option ScalarValue)) (i : ℕ) (d : DType) (o : Option ScalarValue) (v : ScalarValue) → roses_of (typs ds) ≡ r.types → roses_of (all_seen ws) ≡ r.values → FitBy r.values r.types
    → i < length ds → i < length ws → d ≡ get_or ds i d → o ≡ get_or ws i o → o ≡ Some v → Fits (value_of v) (typ d)
fits_at r ds ws i d o v b c f k l x y e =
    let g : FitBy (roses_of (all_seen ws)) (roses_of (typs ds)) = subst (λ (z : Roses Kind). FitBy (roses_of (all_seen ws)) z) (sym b) (subst (λ (z : Values). FitBy z r.types) (sym c) f) in
    let at : Fits (seen (get_or ws i o)) (typ (get_or ds i d)) = by-at ws ds i o d l k g in
    subst (λ (z : Option ScalarValue). Fits (seen z) (typ d)) (sym y ∙ e) (subst (λ (z : DType). Fits (seen (get_or ws i o)) (typ z)) (sym x) at)

pub smaller_at : (r : Raw) (ws : List (Option ScalarValue)) (i : ℕ) (o : Option ScalarValue) (v : ScalarValue) → roses_of (all_seen ws) ≡ r.values → i < length ws → o ≡ get_or ws i o → o ≡ Some v → nodes (value_of v) ≤ nodes_of r.values
smaller_at r ws i o v c l y e =
    let at : nodes (get_or (all_seen ws) i (seen o)) ≤ nodes_of (roses_of (all_seen ws)) = nodes-at (all_seen ws) i (seen o) (omega (arith, l, seen-length ws)) in
    let is : get_or (all_seen ws) i (seen o) ≡ value_of v = seen-at ws i o ∙ ap (λ (z : Option ScalarValue). seen z) (sym y ∙ e) in
    omega (arith, at, ap (λ (z : Value). nodes z) is, ap (λ (z : Values). nodes_of z) c)

-- ---- what is given and what is left over

-- A field that is not null is what is found.
found_is : (t : Typ) (w : Value) (f : Typ × Value) → Some f ≡ not_null (Some (t, w)) → Some (t, w) ≡ Some f
found_is t (node V.null vs) f e = absurd (none-some f (sym e))
found_is t (node m vs) f e = sym e

not_null_back : (o : Option (Typ × Value)) (f : Typ × Value) → Some f ≡ not_null o → o ≡ Some f
not_null_back None f e = absurd (none-some f (sym e))
not_null_back (Some (t, w)) f e = found_is t w f e

-- Where a field is found, what stands under its name is that of the field merged.
pub given_some : (t r : Raw) (name : List ℕ) (d : Typ) (v : Value) (o : Option Raw) (w : Value) → Some (d, v) ≡ not_null (raw_field name t.names t.types t.values) → o ≡ structure_at name r → merged v d o ≡ Some w → given_at t r name ≡ Some w
given_some t r name d v o w e q m =
    ap (λ (x : Option (Typ × Value)). merged_at name r x) (not_null_back (raw_field name t.names t.types t.values) (d, v) e) ∙ ap (λ (x : Option Raw). merged v d x) (sym q) ∙ m

-- Where none is, nothing does.
none_given : (name : List ℕ) (r : Raw) (o : Option (Typ × Value)) → None ≡ not_null o → merged_at name r o ≡ None
none_given name r None e = refl
none_given name r (Some (d, node V.null vs)) e = refl
none_given name r (Some (d, node m vs)) e = absurd (none-some _ e)

pub given_none : (t r : Raw) (name : List ℕ) → None ≡ not_null (raw_field name t.names t.types t.values) → given_at t r name ≡ None
given_none t r name e = none_given name r (raw_field name t.names t.types t.values) e

pub other_some : (t r : Raw) (name : List ℕ) (d : Typ) (v w : Value) → None ≡ not_null (raw_field name t.names t.types t.values) → Some (d, v) ≡ not_null (raw_field name r.names r.types r.values) → wrapped d v ≡ w → other_at t r name ≡ Some w
other_some t r name d v w e q m = (λ i. left_over (sym e i) (sym q i)) ∙ ap (λ (x : Value). Some x) m

pub other_given : (t r : Raw) (name : List ℕ) (f : Typ × Value) → Some f ≡ not_null (raw_field name t.names t.types t.values) → other_at t r name ≡ None
other_given t r name f e = ap (λ (x : Option (Typ × Value)). left_over x (not_null (raw_field name r.names r.types r.values))) (sym e)

pub other_none : (t r : Raw) (name : List ℕ) → None ≡ not_null (raw_field name r.names r.types r.values) → other_at t r name ≡ None
other_none t r name e = ap (λ (x : Option (Typ × Value)). left_over (not_null (raw_field name t.names t.types t.values)) x) (sym e) ∙ nothing_left (not_null (raw_field name t.names t.types t.values))
  where
    nothing_left : (o : Option (Typ × Value)) → left_over o None ≡ None
    nothing_left None = refl
    nothing_left (Some f) = refl

pub other_left : (t r : Raw) (name : List ℕ) → None ≡ not_null (raw_field name t.names t.types t.values) → other_at t r name ≡ left_over None (not_null (raw_field name r.names r.types r.values))
other_left t r name e = ap (λ (x : Option (Typ × Value)). left_over x (not_null (raw_field name r.names r.types r.values))) (sym e)

-- A field that is left over is kept as a variant.
pub left_kept : (name : List ℕ) (d : Typ) (v w : Value) (o : Option (Typ × Value)) → Some (d, v) ≡ o → wrapped d v ≡ w → (name, w) ∷ [] ≡ kept name (left_over None o)
left_kept name d v w o e m = ap (λ (x : Value). kept name (Some x)) (sym m) ∙ ap (λ (x : Option (Typ × Value)). kept name (left_over None x)) e

pub none_kept : (name : List ℕ) (o : Option (Typ × Value)) (fs : List Named) → None ≡ o → fs ≡ fs ++ kept name (left_over None o)
none_kept name o fs e = sym (append-nil fs) ∙ ap (λ (x : Option (Typ × Value)). fs ++ kept name (left_over None x)) e

-- ---- gathering

names_push : (fs : List Named) (x : Named) → names_of (fs ++ x ∷ []) ≡ names_of fs ++ x.0 ∷ []
names_push [] x = refl
names_push (f ∷ fs) x = ap (λ (ns : List (List ℕ)). f.0 ∷ ns) (names_push fs x)

types_push : (ts : List Typ) (fs : List Named) (x : Named) → roses_of ts ≡ types_of fs → roses_of (ts ++ variants ∷ []) ≡ types_of (fs ++ x ∷ [])
types_push [] [] x e = refl
types_push [] (f ∷ fs) x e = absurd (never_end variants (types_of fs) (sym e))
types_push (t ∷ ts) [] x e = absurd (never_end t (roses_of ts) e)
types_push (t ∷ ts) (f ∷ fs) x e =
    let p = first_tree t variants (roses_of ts) (types_of fs) e in
    let q = types_push ts fs x (other_trees t variants (roses_of ts) (types_of fs) e) in
    λ i. more (p i) (q i)

values_push : (vs : List Value) (fs : List Named) (x : Named) → roses_of vs ≡ values_of fs → roses_of (vs ++ x.1 ∷ []) ≡ values_of (fs ++ x ∷ [])
values_push [] [] x e = refl
values_push [] (f ∷ fs) x e = absurd (never_end f.1 (values_of fs) (sym e))
values_push (v ∷ vs) [] x e = absurd (never_end v (roses_of vs) e)
values_push (v ∷ vs) (f ∷ fs) x e =
    let p = first_tree v f.1 (roses_of vs) (values_of fs) e in
    let q = values_push vs fs x (other_trees v f.1 (roses_of vs) (values_of fs) e) in
    λ i. more (p i) (q i)

-- One field more.
pub named_push : (a b : NamedVariants) (fs : List Named) (name : List ℕ) (v : Value) → AreNamed a fs → b.names ≡ a.names ++ name ∷ [] → b.types ≡ a.types ++ variants ∷ [] → b.values ≡ a.values ++ v ∷ [] → AreNamed b (fs ++ (name, v) ∷ [])
named_push a b fs name v h p q r = record {
  names = p ∙ ap (λ (ns : List (List ℕ)). ns ++ name ∷ []) h.names ∙ sym (names_push fs (name, v));
  types = ap (λ (ts : List Typ). roses_of ts) q ∙ types_push a.types fs (name, v) h.types;
  values = ap (λ (vs : List Value). roses_of vs) r ∙ values_push a.values fs (name, v) h.values;
}

-- There are as many names as types.
pub named_lengths : (n : NamedVariants) (fs : List Named) → AreNamed n fs → length n.names ≡ length n.types
named_lengths n fs h = ap (λ (ns : List (List ℕ)). length ns) h.names ∙ same fs ∙ sym (ap (λ (ts : Roses Kind). count ts) h.types) ∙ count-roses_of n.types
  where
    same : (fs : List Named) → length (names_of fs) ≡ count (types_of fs)
    same [] = refl
    same (f ∷ fs) = ap (λ k. suc k) (same fs)

-- The fields that are gathered fit as those that they are do.
pub named_fits : (n : NamedVariants) (fs : List Named) → AreNamed n fs → Fits (node tuple (values_of fs)) (node (structure (names_of fs) NonNullable) (types_of fs)) → Fits (node tuple (roses_of n.values)) (node (structure n.names NonNullable) (roses_of n.types))
named_fits n fs h f =
    subst (λ (vs : Values). FitBy vs (roses_of n.types)) (sym h.values) (subst (λ (ts : Roses Kind). FitBy (values_of fs) ts) (sym h.types) f)

pub named_scalar : (n : NamedVariants) (fs : List Named) (s : Typed) → AreNamed n fs → s ≡ record { dtype = node (structure n.names NonNullable) (roses_of n.types); value = node tuple (roses_of n.values) }
    → s ≡ record { dtype = node (structure (names_of fs) NonNullable) (types_of fs); value = node tuple (values_of fs) }
named_scalar n fs s h e = e ∙ (λ i. record { dtype = node (structure (h.names i) NonNullable) (h.types i); value = node tuple (h.values i) })

-- ---- elements

wrapped_push : (e : Typ) (ws vs : List Value) (v w : Value) → roses_of ws ≡ each_wrapped e (roses_of vs) → w ≡ wrapped e v → roses_of (ws ++ w ∷ []) ≡ each_wrapped e (roses_of (vs ++ v ∷ []))
wrapped_push e [] [] v w p q = ap (λ (z : Value). more z end) q
wrapped_push e [] (x ∷ vs) v w p q = absurd (never_end _ _ (sym p))
wrapped_push e (y ∷ ws) [] v w p q = absurd (never_end _ _ p)
wrapped_push e (y ∷ ws) (x ∷ vs) v w p q =
    let a = first_tree y (wrapped e x) (roses_of ws) (each_wrapped e (roses_of vs)) p in
    let b = wrapped_push e ws vs v w (other_trees y (wrapped e x) (roses_of ws) (each_wrapped e (roses_of vs)) p) q in
    λ i. more (a i) (b i)

pub seen_take : (os : List (Option ScalarValue)) (i : ℕ) (o : Option ScalarValue) → i < length os → o ≡ get_or os i o → all_seen (take (suc i) os) ≡ all_seen (take i os) ++ seen o ∷ []
seen_take [] i o h q = absurd (omega (arith, h))
seen_take (x ∷ os) zero o h q = ap (λ (z : Option ScalarValue). seen z ∷ []) (sym q)
seen_take (x ∷ os) (suc i) o h q = ap (λ (vs : List Value). seen x ∷ vs) (seen_take os i o (omega (arith, h)) q)

-- An element fits.
pub element_fits : (e : Typ) (os : List (Option ScalarValue)) (i : ℕ) (o p : Option ScalarValue) → i < length os → o ≡ get_or os i o → p ≡ o → EachFits (roses_of (all_seen os)) e → Fits (seen p) e
element_fits e [] i o p h q r f = absurd (omega (arith, h))
element_fits e (x ∷ os) zero o p h q r f = subst (λ (z : Option ScalarValue). Fits (seen z) e) (sym (r ∙ q)) f.0
element_fits e (x ∷ os) (suc i) o p h q r f = element_fits e os i o p (omega (arith, h)) q r f.1

-- One element more.
pub wrapped_more : (e : Typ) (ws : List Value) (os : List (Option ScalarValue)) (i : ℕ) (o : Option ScalarValue) (w : Value) → i < length os → o ≡ get_or os i o → roses_of ws ≡ each_wrapped e (roses_of (all_seen (take i os))) → w ≡ wrapped e (seen o)
    → roses_of (ws ++ w ∷ []) ≡ each_wrapped e (roses_of (all_seen (take (i + 1) os)))
wrapped_more e ws os i o w h q p r =
    rw (add-one i) (wrapped_push e ws (all_seen (take i os)) (seen o) w p r ∙ ap (λ (vs : List Value). each_wrapped e (roses_of vs)) (sym (seen_take os i o h q)))

-- ---- a field of a structure that is borrowed

module _ (names : List (List ℕ)) (types : List Typ) (values : List Value) (name : List ℕ) (ns : List (List ℕ)) (ds : List DType) (ws : List (Option ScalarValue)) (a : ns ≡ names) (b : typs ds ≡ types) (e : all_seen ws ≡ values) where
  whole : (o : Option (Typ × Value)) → raw_field name ns (roses_of (typs ds)) (roses_of (all_seen ws)) ≡ o → raw_field name names (roses_of types) (roses_of values) ≡ o
  whole o h = (λ j. raw_field name (sym a j) (roses_of (sym b j)) (roses_of (sym e j))) ∙ h

  module _ (i : ℕ) (n : List ℕ) (o : Option ScalarValue) (h : i < length ns) (l : i < length ws) (x : n ≡ get_or ns i n) (z : o ≡ get_or ws i o) where
    module _ (d : DType) (k : i < length ds) (y : d ≡ get_or ds i d) where
      pub field_found : (v : ScalarValue) → bytes_eq name n ≡ true → Searches name ns ds ws i → o ≡ Some v → Some (typ d, value_of v) ≡ not_null (raw_field name names (roses_of types) (roses_of values))
      field_found v q s is =
          sym (ap (λ (f : Option (Typ × Value)). not_null f) (whole (Some (typ d, seen o)) (search_hits name ns ds ws i n d o h k l x y z q s) ∙ ap (λ (w : Option ScalarValue). Some (typ d, seen w)) is) ∙ not_null_value (typ d) v)

      pub field_fits : (v : ScalarValue) → FitBy (roses_of values) (roses_of types) → o ≡ Some v → Fits (value_of v) (typ d)
      field_fits v f is =
          fits_at (record { names = names; types = roses_of types; values = roses_of values }) ds ws i d o v (ap (λ (ts : List Typ). roses_of ts) b) (ap (λ (vs : List Value). roses_of vs) e) f k l y z is

    pub field_null : i < length ds → bytes_eq name n ≡ true → Searches name ns ds ws i → o ≡ None → None ≡ not_null (raw_field name names (roses_of types) (roses_of values))
    field_null k q s is = some_type ds i k (λ d y.
        sym (ap (λ (f : Option (Typ × Value)). not_null f) (whole (Some (typ d, seen o)) (search_hits name ns ds ws i n d o h k l x y z q s) ∙ ap (λ (w : Option ScalarValue). Some (typ d, seen w)) is)))
      where
        some_type : (ds : List DType) (i : ℕ) → i < length ds → {P : Type 0} → ((d : DType) → d ≡ get_or ds i d → P) → P
        some_type [] i k f = absurd (omega (arith, k))
        some_type (d ∷ ds) zero k f = f d refl
        some_type (d ∷ ds) (suc i) k f = some_type ds i (omega (arith, k)) f

    pub field_smaller : (v : ScalarValue) → o ≡ Some v → nodes (value_of v) ≤ nodes_of (roses_of values)
    field_smaller v is =
        smaller_at (record { names = names; types = roses_of types; values = roses_of values }) ws i o v (ap (λ (vs : List Value). roses_of vs) e) l z is

  pub field_none : (i : ℕ) → length ns ≤ i → Searches name ns ds ws i → None ≡ not_null (raw_field name names (roses_of types) (roses_of values))
  field_none i h s = sym (ap (λ (f : Option (Typ × Value)). not_null f) (whole None (search_ends name ns ds ws i h s)))

-- Of a struct as it is borrowed there is a name for each type and for each value.
pub borrowed_counts : (names : List (List ℕ)) (types : List Typ) (values : List Value) (ns : List (List ℕ)) (ds : List DType) (ws : List (Option ScalarValue)) → ns ≡ names → typs ds ≡ types → all_seen ws ≡ values
    → length names ≡ count (roses_of types) → FitBy (roses_of values) (roses_of types) → (length ns ≡ length ds) × (length ns ≡ length ws)
borrowed_counts names types values ns ds ws a b e l f =
    same_counts (record { names = names; types = roses_of types; values = roses_of values }) ns ds ws a (ap (λ (ts : List Typ). roses_of ts) b) (ap (λ (vs : List Value). roses_of vs) e) l f

-- What is said where an answer is Ok.
pub ok_of : {A E : Type 0} (r : Result A E) (x : A) (P : Type 0) → OnOk r P → r ≡ Ok x → P
ok_of r x P h e = subst (λ z. OnOk z P) e h
