-- A merge of values that fit their types is a variant, with nothing opaque.
use Rattle.std.proofs.Common.{ℕ, ◌≡◌, ◌||◌, List, [], ◌∷◌, ◌++◌, Option, Some, None, Bool, true, false, refl, ap, ◌∙◌, subst, bytes_eq, if◌then◌else◌}
use Rattle.std.proofs.lemmas.Option.{same_Some, none-some}
use Rattle.vx_trees.specs.Rose.{Roses, node, end, more}
use Rattle.vx_types.specs.Kind as K
use Rattle.vx_types.specs.Kind.{Kind}
use Rattle.vx_types.specs.Typ.{Typ}
use Rattle.vx_types.specs.declared.nullability.Nullability.{Nullability}
use Rattle.vx_types.specs.declared.nullability.Nullability.TheVariants.{Nullable, NonNullable}
use Rattle.vx_types.specs.Fits.{Fits, EachFits, FitBy}
use Rattle.vx_array_tree.specs.Merge.{Named, variants, wrapped, each_wrapped, Raw, structure_in, raw_structure, raw_field, structure_at, first_named, kept, given, is_named, raw_value, others, types_of, values_of, structure_of, joined, over, merged, merged_fields, fallback_structure, variant_list, merge}
use Rattle.vx_types.specs.Value.{Value, Values, null, opaque, tuple, union, variant, variant_of, has_opaque, have_opaque, is_null}
use Rattle.vx_array_tree.proofs.RowsFit.{or_left, or_right}

-- A value of a type, with nothing opaque.
pub record IsGood (d : Typ) (v : Value) : Type 0 where
  pub fits : Fits v d
  pub plain : has_opaque v ≡ false

-- A variant that is not null, with nothing opaque.
abbrev pub IsGoodVariant : Value → Type 0
IsGoodVariant v = IsGood variants v

-- A struct whose fields are such values.
pub record IsGoodRaw (r : Raw) : Type 0 where
  pub fits : FitBy r.values r.types
  pub plain : have_opaque r.values ≡ false

abbrev pub IsGoodFallback : Option Raw → Type 0
IsGoodFallback None = Unit {0}
IsGoodFallback (Some r) = IsGoodRaw r

both_false : (a b : Bool) → a ≡ false → b ≡ false → (a || b) ≡ false
both_false a b p q = ap (λ z. z || b) p ∙ q

variant_good : (d : Typ) (v : Value) → IsGood d v → IsGoodVariant (variant_of d v)
variant_good d v g = record { fits = (tt, (g.fits, refl)); plain = both_false (has_opaque v) false g.plain refl }

own_variant : (m : Nullability) (ts : Roses Kind) (v : Value) → IsGood (node (K.variant m) ts) v → IsGoodVariant (wrapped (node (K.variant m) ts) v)
own_variant m ts (node null vs) g = variant_good (node (K.variant m) ts) (node null vs) g
own_variant m ts (node (variant e) vs) g = record { fits = g.fits; plain = g.plain }
own_variant m ts (node opaque vs) g = absurd g.fits
own_variant m ts (node tuple vs) g = absurd g.fits
own_variant m ts (node (union g0) vs) g = absurd g.fits
own_variant m ts _ g = absurd g.fits.0

wrapped_good : (d : Typ) (v : Value) → IsGood d v → IsGoodVariant (wrapped d v)
wrapped_good (node (K.variant m) ts) v g = own_variant m ts v g
wrapped_good d v g = variant_good d v g

each_good : (e : Typ) (vs : Values) → EachFits vs e → have_opaque vs ≡ false → EachFits (each_wrapped e vs) variants × (have_opaque (each_wrapped e vs) ≡ false)
each_good e end f p = (tt, refl)
each_good e (more v vs) f p =
    let g = wrapped_good e v (record { fits = f.0; plain = or_left (has_opaque v) (have_opaque vs) p }) in
    let h = each_good e vs f.1 (or_right (has_opaque v) (have_opaque vs) p) in
    ((g.fits, h.0), both_false (has_opaque (wrapped e v)) (have_opaque (each_wrapped e vs)) g.plain h.1)

list_good : (e : Typ) (vs : Values) → EachFits vs e → have_opaque vs ≡ false → IsGoodVariant (variant_list e vs)
list_good e vs f p =
    let h = each_good e vs f p in
    record { fits = (tt, (h.0, refl)); plain = both_false (have_opaque (each_wrapped e vs)) false h.1 refl }

-- ---- structures

-- The struct that a value is, is of such fields.
no_structure : (d : Typ) (v : Value) (r : Raw) → IsGood d v → structure_in d v ≡ Some r → IsGoodRaw r
no_structure (node (K.structure ns x) ts) (node tuple vs) r g e =
    subst (λ (z : Raw). IsGoodRaw z) (same_Some (record { names = ns; types = ts; values = vs }) r e) (record { fits = g.fits; plain = g.plain })
no_structure _ _ r g e = absurd (none-some _ e)

raw_good : (d : Typ) (v : Value) (r : Raw) → IsGood d v → raw_structure d v ≡ Some r → IsGoodRaw r
raw_good (node (K.variant m) ts) (node (variant e0) (more v vs)) r g e = no_structure e0 v r (record { fits = g.fits.1.0; plain = or_left (has_opaque v) (have_opaque vs) g.plain }) e
raw_good d v r g e = no_structure d v r g e

-- A field of a name, if any.
pub record IsGoodField (f : Typ × Value) : Type 0 where
  pub good : IsGood f.0 f.1

field_found : (b : Bool) (d : Typ) (v : Value) (rest : Option (Typ × Value)) (f : Typ × Value) → IsGood d v → (rest ≡ Some f → IsGoodField f) → (if b then Some (d, v) else rest) ≡ Some f → IsGoodField f
field_found true d v rest f g k e = subst (λ (z : Typ × Value). IsGoodField z) (same_Some (d, v) f e) (record { good = g })
field_found false d v rest f g k e = k e

field_good : (name : List ℕ) (ns : List (List ℕ)) (ts : Roses Kind) (vs : Values) (f : Typ × Value) → FitBy vs ts → have_opaque vs ≡ false → raw_field name ns ts vs ≡ Some f → IsGoodField f
field_good name [] ts vs f b p e = absurd (none-some _ e)
field_good name (n ∷ ns) end end f b p e = absurd (none-some _ e)
field_good name (n ∷ ns) end (more v vs) f b p e = absurd (none-some _ e)
field_good name (n ∷ ns) (more t ts) end f b p e = absurd (none-some _ e)
field_good name (n ∷ ns) (more t ts) (more v vs) f b p e =
    field_found (bytes_eq name n) t v (raw_field name ns ts vs) f (record { fits = b.0; plain = or_left (has_opaque v) (have_opaque vs) p })
    (λ k. field_good name ns ts vs f b.1 (or_right (has_opaque v) (have_opaque vs) p) k) e

from_raw : (o : Option Raw) → ((r : Raw) → o ≡ Some r → IsGoodRaw r) → IsGoodFallback o
from_raw None q = tt
from_raw (Some r) q = q r refl

structure_found : (o : Option (Typ × Value)) → ((f : Typ × Value) → o ≡ Some f → IsGoodField f) → IsGoodFallback (elim o as (λ _. Option Raw) [ None ↦ None | Some f ↦ raw_structure f.0 f.1 ])
structure_found None k = tt
structure_found (Some f) k = from_raw (raw_structure f.0 f.1) (λ r e. raw_good f.0 f.1 r (k f refl).good e)

at_good : (name : List ℕ) (r : Raw) → IsGoodRaw r → IsGoodFallback (structure_at name r)
at_good name r g = structure_found (raw_field name r.names r.types r.values) (λ f e. field_good name r.names r.types r.values f g.fits g.plain e)

-- ---- named variants

abbrev AllVariants : List Named → Type 0
AllVariants [] = Unit {0}
AllVariants (x ∷ xs) = IsGoodVariant x.1 × AllVariants xs

abbrev MayBeVariant : Option Value → Type 0
MayBeVariant None = Unit {0}
MayBeVariant (Some v) = IsGoodVariant v

abbrev AllMayBe : List (List ℕ × Option Value) → Type 0
AllMayBe [] = Unit {0}
AllMayBe (x ∷ xs) = MayBeVariant x.1 × AllMayBe xs

append_variants : (xs ys : List Named) → AllVariants xs → AllVariants ys → AllVariants (xs ++ ys)
append_variants [] ys a b = b
append_variants (x ∷ xs) ys a b = (a.0, append_variants xs ys a.1 b)

kept_variants : (name : List ℕ) (o : Option Value) → MayBeVariant o → AllVariants (kept name o)
kept_variants name None a = tt
kept_variants name (Some v) a = (a, tt)

first_by : (b : Bool) (o p : Option Value) → MayBeVariant o → MayBeVariant p → MayBeVariant (if b then o else p)
first_by true o p a b = a
first_by false o p a b = b

first_variant : (name : List ℕ) (xs : List (List ℕ × Option Value)) → AllMayBe xs → MayBeVariant (first_named name xs)
first_variant name [] a = tt
first_variant name (x ∷ xs) a = first_by (bytes_eq name x.0) x.1 (first_named name xs) a.0 (first_variant name xs a.1)

given_variants : (all xs : List (List ℕ × Option Value)) → AllMayBe all → AllVariants (given all xs)
given_variants all [] a = tt
given_variants all (x ∷ xs) a = append_variants (kept x.0 (first_named x.0 all)) (given all xs) (kept_variants x.0 (first_named x.0 all) (first_variant x.0 all a)) (given_variants all xs a)

raw_variant : (d : Typ) (v : Value) → IsGood d v → MayBeVariant (raw_value (Some (d, v)))
raw_variant d (node null vs) g = tt
raw_variant d v g = wrapped_good d v g

raw_from : (o : Option (Typ × Value)) → ((f : Typ × Value) → o ≡ Some f → IsGoodField f) → MayBeVariant (raw_value o)
raw_from None k = tt
raw_from (Some f) k = raw_variant f.0 f.1 (k f refl).good

other_by : (b : Bool) (xs : List Named) → AllVariants xs → AllVariants (if b then [] else xs)
other_by true xs a = tt
other_by false xs a = a

other_variants : (has : List Named) (r : Raw) (ns : List (List ℕ)) → IsGoodRaw r → AllVariants (others has r ns)
other_variants has r [] g = tt
other_variants has r (n ∷ ns) g =
    append_variants (if is_named n has then [] else kept n (raw_value (raw_field n r.names r.types r.values))) (others has r ns)
    (other_by (is_named n has) (kept n (raw_value (raw_field n r.names r.types r.values))) (kept_variants n (raw_value (raw_field n r.names r.types r.values)) (raw_from (raw_field n r.names r.types r.values) (λ f e. field_good n r.names r.types r.values f g.fits g.plain e))))
    (other_variants has r ns g)

fields_good : (xs : List Named) → AllVariants xs → FitBy (values_of xs) (types_of xs) × (have_opaque (values_of xs) ≡ false)
fields_good [] a = (refl, refl)
fields_good (x ∷ xs) a = let h = fields_good xs a.1 in ((a.0.fits, h.0), both_false (has_opaque x.1) (have_opaque (values_of xs)) a.0.plain h.1)

structure_good : (xs : List Named) → AllVariants xs → IsGoodVariant (structure_of xs)
structure_good xs a = let h = fields_good xs a in record { fits = (tt, (h.0, refl)); plain = both_false (have_opaque (values_of xs)) false h.1 refl }

joined_good : (fs : List (List ℕ × Option Value)) (r : Raw) → AllMayBe fs → IsGoodRaw r → IsGoodVariant (joined fs r)
joined_good fs r a g = structure_good (given fs fs ++ others (given fs fs) r r.names) (append_variants (given fs fs) (others (given fs fs) r r.names) (given_variants fs fs a) (other_variants (given fs fs) r r.names g))

-- ---- the merge

over_good : (d : Typ) (vs : Values) (raw : Option Raw) (fields : List (List ℕ) → Roses Kind → Raw → List (List ℕ × Option Value)) → IsGood d (node tuple vs) → IsGoodFallback raw
    → ((ns : List (List ℕ)) (ts : Roses Kind) (r : Raw) → FitBy vs ts → IsGoodRaw r → AllMayBe (fields ns ts r)) → IsGoodVariant (over d raw (node tuple vs) fields)
over_good (node (K.structure ns x) ts) vs (Some r) fields g a k = joined_good (fields ns ts r) r (k ns ts r g.fits a) a
over_good d vs raw fields g a k = wrapped_good d (node tuple vs) g

mutual
  merged_good : (v : Value) (d : Typ) (raw : Option Raw) → IsGood d v → IsGoodFallback raw → MayBeVariant (merged v d raw)
  merged_good (node null vs) d raw g a = tt
  merged_good (node tuple vs) d raw g a = over_good d vs raw (λ ns ts r. merged_fields vs ns ts r) g a (λ ns ts r f h. fields_merged vs ns ts r f g.plain h)
  merged_good v d raw g a = wrapped_good d v g

  fields_merged : (vs : Values) (ns : List (List ℕ)) (ts : Roses Kind) (r : Raw) → FitBy vs ts → have_opaque vs ≡ false → IsGoodRaw r → AllMayBe (merged_fields vs ns ts r)
  fields_merged end ns ts r f p g = tt
  fields_merged (more v vs) [] ts r f p g = tt
  fields_merged (more v vs) (n ∷ ns) end r f p g = absurd f
  fields_merged (more v vs) (n ∷ ns) (more d ds) r f p g =
      (merged_good v d (structure_at n r) (record { fits = f.0; plain = or_left (has_opaque v) (have_opaque vs) p }) (at_good n r g), fields_merged vs ns ds r f.1 (or_right (has_opaque v) (have_opaque vs) p) g)

-- A value that is not null over a fallback of such fields.
pub merge_good : (d : Typ) (v : Value) (fallback : Option Value) → IsGood d v → is_null v ≡ false → IsGoodFallback (fallback_structure fallback) → IsGoodVariant (merge d v fallback)
merge_good d (node null vs) fb g z a = absurd (cc)
merge_good (node (K.list m) (more e end)) (node tuple vs) fb g z a = list_good e vs g.fits g.plain
merge_good (node (K.fixed_size_list w m) (more e end)) (node tuple vs) fb g z a = list_good e vs g.fits.1 g.plain
merge_good d v fb g z a = merged_good v d (fallback_structure fb) g a

-- A variant's struct as a fallback.
pub fallback_good : (m : Nullability) (v : Value) → IsGood (node (K.variant m) end) v → IsGoodFallback (raw_structure variants v)
fallback_good m (node null vs) g = tt
fallback_good m (node (variant e) vs) g = from_raw (raw_structure variants (node (variant e) vs)) (λ r q. raw_good variants (node (variant e) vs) r (record { fits = g.fits; plain = g.plain }) q)
fallback_good m (node opaque vs) g = absurd g.fits
fallback_good m (node tuple vs) g = absurd g.fits
fallback_good m (node (union g0) vs) g = absurd g.fits
fallback_good m _ g = absurd g.fits.0

never_null : NonNullable ≡ Nullable → ⊥
never_null e = cc

-- A variant that is not null is one where it may be, too.
pub variant_fits : (m : Nullability) (v : Value) → Fits v variants → Fits v (node (K.variant m) end)
variant_fits m (node null vs) f = absurd (never_null f.0)
variant_fits m _ f = f
