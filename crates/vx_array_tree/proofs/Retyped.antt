-- A plan under another nullability.
use Rattle.std.proofs.Common.{ℕ, zero, suc, ◌≡◌, List, [], ◌∷◌, Option, Some, None, option_map, refl, sym, ap, ◌∙◌, subst, length, replicate}
use Rattle.std.proofs.lemmas.Option.{same_Some}
use Rattle.vx_trees.specs.Rose.{node, end, more, count}
use Rattle.vx_types.specs.Kind as K
use Rattle.vx_types.specs.Typ.{Typ}
use Rattle.vx_types.specs.Words.{nullability, with_nullability, entries}
use Rattle.vx_types.specs.declared.nullability.Nullability.{Nullability}
use Rattle.vx_types.specs.declared.nullability.Nullability.TheVariants.{Nullable, NonNullable}
use Rattle.vx_numbers.specs.declared.ptype.PType.TheVariants.{U8}
use Rattle.vx_array_tree.specs.Body.{Body}
use Rattle.vx_array_tree.specs.Body as B
use Rattle.vx_array_tree.specs.Encoding.{Encoding}
use Rattle.vx_array_tree.specs.Encoding as E
use Rattle.vx_array_tree.specs.Encodings.Dicts as Dicts
use Rattle.vx_array_tree.specs.Encodings.VarBins as VarBins
use Rattle.vx_array_tree.specs.Encodings.Nulls as Nulls
use Rattle.vx_array_tree.specs.Encodings.Bools as Bools
use Rattle.vx_array_tree.specs.Encodings.Primitives as Primitives
use Rattle.vx_array_tree.specs.Encodings.Decimals as Decimals
use Rattle.vx_array_tree.specs.Encodings.VarBinViews as VarBinViews
use Rattle.vx_array_tree.specs.Encodings.Lists as Lists
use Rattle.vx_array_tree.specs.Encodings.ListViews as ListViews
use Rattle.vx_array_tree.specs.Encodings.FixedSizeLists as FixedSizeLists
use Rattle.vx_array_tree.specs.Encodings.Maps as Maps
use Rattle.vx_array_tree.specs.Encodings.Structs as Structs
use Rattle.vx_array_tree.specs.Encodings.Unions as Unions
use Rattle.vx_array_tree.specs.Encodings.Variants as Variants
use Rattle.vx_array_tree.specs.Encodings.Exts as Exts
use Rattle.vx_array_tree.specs.Encodings.Foreigns as Foreigns
use Rattle.vx_array_tree.specs.Metadata.{Metadata}
use Rattle.vx_array_tree.specs.Metadata as M
use Rattle.vx_array_tree.specs.Place.{Place, place, exactly, places_at}
use Rattle.vx_array_tree.specs.Normal.{IsNormalBy, AreForeignAt}
use Rattle.vx_array_tree.specs.Table.{metadata_of, plan_of, encoding_of, lifted, Allows, IsNative, IsNormalBody}
use Rattle.vx_array_tree.specs.Tree.{Head, Trees, places}
use Rattle.vx_types.proofs.LawsOfTypes.{nullable_under, own_nullability, twice_nullability, same_nullability}
use Rattle.vx_array_tree.proofs.Options.{mapped}
use Rattle.vx_array_tree.proofs.Plans.{exactly_is}

-- A type is another one but for its nullability, which may only have been brought.
pub record IsRetyped (d e : Typ) : Type 0 where
  pub nullability_is : Nullability
  pub retyped : with_nullability nullability_is d ≡ e
  pub raises : nullability d ≡ Nullable → nullability_is ≡ Nullable

-- A type that may be null still may.
pub retyped_nullable : (d e : Typ) → IsRetyped d e → nullability d ≡ Nullable → nullability e ≡ Nullable
retyped_nullable d e r n = ap (λ z. nullability z) (sym r.retyped) ∙ ap (λ z. nullability (with_nullability z d)) (r.raises n) ∙ nullable_under d

pub retyped_same : (d : Typ) → IsRetyped d d
retyped_same d = record { nullability_is = nullability d; retyped = own_nullability d; raises = λ n. n }

pub retyped_eq : (d e : Typ) → d ≡ e → IsRetyped d e
retyped_eq d e p = subst (λ x. IsRetyped d x) p (retyped_same d)

pub retyped_then : (d e f : Typ) → IsRetyped d e → IsRetyped e f → IsRetyped d f
retyped_then d e f p q = record {
  nullability_is = q.nullability_is;
  retyped = sym (twice_nullability q.nullability_is p.nullability_is d) ∙ ap (λ x. with_nullability q.nullability_is x) p.retyped ∙ q.retyped;
  raises = λ n. q.raises (retyped_nullable d e p n);
}

-- Places whose types are others' but for their nullability.
abbrev pub AreRetyped : List Place → List Place → Type 0
AreRetyped [] qs = qs ≡ []
AreRetyped (p ∷ ps) [] = ⊥
AreRetyped (p ∷ ps) (q ∷ qs) = IsRetyped p.dtype q.dtype × (p.len ≡ q.len) × AreRetyped ps qs

pub are_retyped_same : (ps : List Place) → AreRetyped ps ps
are_retyped_same [] = refl
are_retyped_same (p ∷ ps) = (retyped_same p.dtype, refl, are_retyped_same ps)

-- A plan that stands under another nullability, with such places.
pub record Replanned (ps : List Place) (o : Option (List Place)) : Type 0 where
  pub others : List Place
  pub planned : o ≡ Some others
  pub retyped : AreRetyped ps others

replanned_same : (ps : List Place) (o : Option (List Place)) → o ≡ Some ps → Replanned ps o
replanned_same ps o e = record { others = ps; planned = e; retyped = are_retyped_same ps }

exactly_others : (xs ys : List Place) (k : ℕ) (ps : List Place) → AreRetyped xs ys → exactly xs k ≡ Some ps → exactly ys k ≡ Some ys
exactly_others [] [] zero ps r e = refl
exactly_others [] (b ∷ ys) zero ps r e = absurd (cc)
exactly_others [] ys (suc k) ps r e = absurd (cc)
exactly_others (a ∷ xs) [] k ps r e = absurd r
exactly_others (a ∷ xs) (b ∷ ys) zero ps r e = absurd (cc)
exactly_others (a ∷ xs) (b ∷ ys) (suc k) ps r e =
    let m = mapped (λ (rs : List Place). a ∷ rs) (exactly xs k) ps e in
    ap (λ o. option_map (λ (rs : List Place). b ∷ rs) o) (exactly_others xs ys k m.0 r.2 m.2)

replanned_exactly : (xs ys : List Place) (k : ℕ) (ps : List Place) → AreRetyped xs ys → exactly xs k ≡ Some ps → Replanned ps (exactly ys k)
replanned_exactly xs ys k ps r e = record {
  others = ys;
  planned = exactly_others xs ys k ps r e;
  retyped = subst (λ z. AreRetyped z ys) (sym (exactly_is xs k ps e)) r;
}

under : (m : Nullability) (d : Typ) → (nullability d ≡ Nullable → m ≡ Nullable) → IsRetyped d (with_nullability m d)
under m d up = record { nullability_is = m; retyped = refl; raises = up }

null_replanned : (m : Nullability) (d : Typ) (up : nullability d ≡ Nullable → m ≡ Nullable) (n k : ℕ) (ps : List Place) → Nulls.plan d n k ≡ Some ps → Replanned ps (Nulls.plan (with_nullability m d) n k)
null_replanned m (node K.null end) up n k ps e = replanned_same ps _ e
null_replanned m _ up n k ps e = absurd (cc)

bool_replanned : (m : Nullability) (d : Typ) (up : nullability d ≡ Nullable → m ≡ Nullable) (n k : ℕ) (ps : List Place) → Bools.plan d n k ≡ Some ps → Replanned ps (Bools.plan (with_nullability m d) n k)
bool_replanned m (node (K.boolean x) end) up n k ps e = replanned_same ps _ e
bool_replanned m _ up n k ps e = absurd (cc)

primitive_replanned : (m : Nullability) (d : Typ) (up : nullability d ≡ Nullable → m ≡ Nullable) (n k : ℕ) (ps : List Place) → Primitives.plan d n k ≡ Some ps → Replanned ps (Primitives.plan (with_nullability m d) n k)
primitive_replanned m (node (K.primitive p x) end) up n k ps e = replanned_same ps _ e
primitive_replanned m _ up n k ps e = absurd (cc)

decimal_replanned : (m : Nullability) (d : Typ) (up : nullability d ≡ Nullable → m ≡ Nullable) (n k : ℕ) (ps : List Place) → Decimals.plan d n k ≡ Some ps → Replanned ps (Decimals.plan (with_nullability m d) n k)
decimal_replanned m (node (K.decimal p s x) end) up n k ps e = replanned_same ps _ e
decimal_replanned m _ up n k ps e = absurd (cc)

varbin_replanned : (m : Nullability) (d : Typ) (up : nullability d ≡ Nullable → m ≡ Nullable) (n : ℕ) (v : VarBins.Metadata) (k : ℕ) (ps : List Place) → VarBins.plan d n v k ≡ Some ps → Replanned ps (VarBins.plan (with_nullability m d) n v k)
varbin_replanned m (node (K.utf8 x) end) up n v k ps e = replanned_same ps _ e
varbin_replanned m (node (K.binary x) end) up n v k ps e = replanned_same ps _ e
varbin_replanned m _ up n v k ps e = absurd (cc)

varbinview_replanned : (m : Nullability) (d : Typ) (up : nullability d ≡ Nullable → m ≡ Nullable) (n k : ℕ) (ps : List Place) → VarBinViews.plan d n k ≡ Some ps → Replanned ps (VarBinViews.plan (with_nullability m d) n k)
varbinview_replanned m (node (K.utf8 x) end) up n k ps e = replanned_same ps _ e
varbinview_replanned m (node (K.binary x) end) up n k ps e = replanned_same ps _ e
varbinview_replanned m _ up n k ps e = absurd (cc)

list_replanned : (m : Nullability) (d : Typ) (up : nullability d ≡ Nullable → m ≡ Nullable) (n : ℕ) (v : Lists.Metadata) (k : ℕ) (ps : List Place) → Lists.plan d n v k ≡ Some ps → Replanned ps (Lists.plan (with_nullability m d) n v k)
list_replanned m (node (K.list x) (more t end)) up n v k ps e = replanned_same ps _ e
list_replanned m _ up n v k ps e = absurd (cc)

listview_replanned : (m : Nullability) (d : Typ) (up : nullability d ≡ Nullable → m ≡ Nullable) (n : ℕ) (v : ListViews.Metadata) (k : ℕ) (ps : List Place) → ListViews.plan d n v k ≡ Some ps → Replanned ps (ListViews.plan (with_nullability m d) n v k)
listview_replanned m (node (K.list x) (more t end)) up n v k ps e = replanned_same ps _ e
listview_replanned m _ up n v k ps e = absurd (cc)

fixed_replanned : (m : Nullability) (d : Typ) (up : nullability d ≡ Nullable → m ≡ Nullable) (n k : ℕ) (ps : List Place) → FixedSizeLists.plan d n k ≡ Some ps → Replanned ps (FixedSizeLists.plan (with_nullability m d) n k)
fixed_replanned m (node (K.fixed_size_list s x) (more t end)) up n k ps e = replanned_same ps _ e
fixed_replanned m _ up n k ps e = absurd (cc)

map_replanned : (m : Nullability) (d : Typ) (up : nullability d ≡ Nullable → m ≡ Nullable) (n k : ℕ) (ps : List Place) → Maps.plan d n k ≡ Some ps → Replanned ps (Maps.plan (with_nullability m d) n k)
map_replanned m (node (K.map b x) (more t (more u end))) up n k ps e =
    let l : Nullability → Typ = λ (z : Nullability). node (K.list z) (more (entries (record { key = t; value = u; keys_sorted = b })) end) in
    replanned_exactly (place (l x) n ∷ []) (place (l m) n ∷ []) k ps (under m (l x) up, refl, refl) e
map_replanned m _ up n k ps e = absurd (cc)

struct_replanned : (m : Nullability) (d : Typ) (up : nullability d ≡ Nullable → m ≡ Nullable) (n k : ℕ) (ps : List Place) → Structs.plan d n k ≡ Some ps → Replanned ps (Structs.plan (with_nullability m d) n k)
struct_replanned m (node (K.structure ns x) ts) up n k ps e = replanned_same ps _ e
struct_replanned m _ up n k ps e = absurd (cc)

union_replanned : (m : Nullability) (d : Typ) (up : nullability d ≡ Nullable → m ≡ Nullable) (n k : ℕ) (ps : List Place) → Unions.plan d n k ≡ Some ps → Replanned ps (Unions.plan (with_nullability m d) n k)
union_replanned m (node (K.union ns ids x) ts) up n k ps e =
    let l : Nullability → Typ = λ (z : Nullability). node (K.primitive U8 z) end in
    replanned_exactly (place (l x) n ∷ places_at ts n) (place (l m) n ∷ places_at ts n) k ps (under m (l x) up, refl, are_retyped_same (places_at ts n)) e
union_replanned m _ up n k ps e = absurd (cc)

variant_replanned : (m : Nullability) (d : Typ) (up : nullability d ≡ Nullable → m ≡ Nullable) (n : ℕ) (v : Option Typ) (k : ℕ) (ps : List Place) → Variants.plan d n v k ≡ Some ps → Replanned ps (Variants.plan (with_nullability m d) n v k)
variant_replanned m (node (K.variant x) end) up n None k ps e =
    let l : Nullability → Typ = λ (z : Nullability). node (K.variant z) end in
    replanned_exactly (place (l x) n ∷ []) (place (l m) n ∷ []) k ps (under m (l x) up, refl, refl) e
variant_replanned m (node (K.variant x) end) up n (Some s) k ps e =
    let l : Nullability → Typ = λ (z : Nullability). node (K.variant z) end in
    replanned_exactly (place (l x) n ∷ place s n ∷ []) (place (l m) n ∷ place s n ∷ []) k ps (under m (l x) up, refl, are_retyped_same (place s n ∷ [])) e
variant_replanned m _ up n v k ps e = absurd (cc)

ext_replanned : (m : Nullability) (d : Typ) (up : nullability d ≡ Nullable → m ≡ Nullable) (n k : ℕ) (ps : List Place) → Exts.plan d n k ≡ Some ps → Replanned ps (Exts.plan (with_nullability m d) n k)
ext_replanned m (node (K.extension x bs) (more t end)) up n k ps e =
    replanned_exactly (place t n ∷ []) (place (with_nullability m t) n ∷ []) k ps (under m t up, refl, refl) e
ext_replanned m _ up n k ps e = absurd (cc)

dict_replanned : (m : Nullability) (d : Typ) (up : nullability d ≡ Nullable → m ≡ Nullable) (n : ℕ) (v : Dicts.Metadata) (k : ℕ) (ps : List Place) → Dicts.plan d n v k ≡ Some ps → Replanned ps (Dicts.plan (with_nullability m d) n v k)
dict_replanned m d up n v k ps e =
    let c : Place = place (node (K.primitive v.codes_ptype v.nullable_codes) end) n in
    replanned_exactly (c ∷ place d v.values_len ∷ []) (c ∷ place (with_nullability m d) v.values_len ∷ []) k ps (retyped_same c.dtype, refl, (under m d up, refl, refl)) e

alike_retyped : (p q : Place) (k : ℕ) → IsRetyped p.dtype q.dtype → p.len ≡ q.len → AreRetyped (replicate k p) (replicate k q)
alike_retyped p q zero r l = refl
alike_retyped p q (suc k) r l = (r, l, alike_retyped p q k r l)

foreign_replanned : (m : Nullability) (d : Typ) (up : nullability d ≡ Nullable → m ≡ Nullable) (n k : ℕ) (ps : List Place) → Foreigns.plan d n k ≡ Some ps → Replanned ps (Foreigns.plan (with_nullability m d) n k)
foreign_replanned m d up n k ps e =
    let q : Place = place (with_nullability m d) n in
    record { others = replicate k q; planned = refl; retyped = subst (λ (z : List Place). AreRetyped z (replicate k q)) (same_Some (replicate k (place d n)) ps e) (alike_retyped (place d n) q k (under m d up) refl) }

-- Where something is planned for a type, so it is for the type under another nullability, at places that
-- differ by their nullability alone.
pub replanned : (e : Encoding) (m : Nullability) (d : Typ) (up : nullability d ≡ Nullable → m ≡ Nullable) (n : ℕ) (v : Metadata) (k : ℕ) (ps : List Place) → plan_of e d n v k ≡ Some ps → Replanned ps (plan_of e (with_nullability m d) n v k)
replanned E.null m d up n M.empty k ps p = null_replanned m d up n k ps p
replanned E.bool m d up n (M.bool v) k ps p = bool_replanned m d up n k ps p
replanned E.primitive m d up n M.empty k ps p = primitive_replanned m d up n k ps p
replanned E.decimal m d up n (M.decimal v) k ps p = decimal_replanned m d up n k ps p
replanned E.varbin m d up n (M.varbin v) k ps p = varbin_replanned m d up n v k ps p
replanned E.varbinview m d up n M.empty k ps p = varbinview_replanned m d up n k ps p
replanned E.list m d up n (M.list v) k ps p = list_replanned m d up n v k ps p
replanned E.listview m d up n (M.listview v) k ps p = listview_replanned m d up n v k ps p
replanned E.fixed_size_list m d up n M.empty k ps p = fixed_replanned m d up n k ps p
replanned E.map m d up n M.empty k ps p = map_replanned m d up n k ps p
replanned E.struct m d up n M.empty k ps p = struct_replanned m d up n k ps p
replanned E.union m d up n M.empty k ps p = union_replanned m d up n k ps p
replanned E.variant m d up n (M.variant v) k ps p = variant_replanned m d up n v k ps p
replanned E.ext m d up n M.empty k ps p = ext_replanned m d up n k ps p
replanned E.dict m d up n (M.dict v) k ps p = dict_replanned m d up n v k ps p
replanned E.foreign m d up n (M.foreign v) k ps p = foreign_replanned m d up n k ps p
replanned _ m d up n v k ps p = absurd (cc)

-- ---- a dictionary's values

raised_retyped : (m : Nullability) (d : Typ) → IsRetyped d (Dicts.raised m d)
raised_retyped Nullable d = under Nullable d (λ n. refl)
raised_retyped NonNullable d = retyped_same d

dict_lifted : (ps : List Place) → AreRetyped ps (Dicts.lifted ps)
dict_lifted [] = refl
dict_lifted (c ∷ []) = are_retyped_same (c ∷ [])
dict_lifted (c ∷ v ∷ ps) = (retyped_same c.dtype, refl, (raised_retyped (nullability c.dtype) v.dtype, refl, are_retyped_same ps))

-- The places that a plan is compared with are the children's but for nullability, where the node is not foreign.
pub lifted_retyped : (d : Typ) (n : ℕ) (b : Body) (ps : List Place) → IsNative b → AreRetyped ps (lifted d n b ps)
lifted_retyped d n (B.dict x) ps k = dict_lifted ps
lifted_retyped d n (B.foreign x) ps k = absurd k
lifted_retyped d n _ ps k = are_retyped_same ps

pub are_retyped_then : (ps qs rs : List Place) → AreRetyped ps qs → AreRetyped qs rs → AreRetyped ps rs
are_retyped_then [] [] rs x y = y
are_retyped_then [] (q ∷ qs) rs x y = absurd (cc)
are_retyped_then (p ∷ ps) [] rs x y = absurd x
are_retyped_then (p ∷ ps) (q ∷ qs) [] x y = absurd y
are_retyped_then (p ∷ ps) (q ∷ qs) (r ∷ rs) x y = (retyped_then p.dtype q.dtype r.dtype x.0 y.0, x.1 ∙ y.1, are_retyped_then ps qs rs x.2 y.2)

own_raised : (m : Nullability) (d v : Typ) → v ≡ d → (m ≡ Nullable → nullability d ≡ Nullable) → Dicts.raised m v ≡ v
own_raised Nullable d v e f = same_nullability Nullable v (ap (λ z. nullability z) e ∙ f refl)
own_raised NonNullable d v e f = refl

dict_own : (d : Typ) (ps : List Place) (x : Dicts.Data) → Dicts.IsNormal d ps → Dicts.Allows d (Dicts.metadata_of x ps) → Dicts.lifted ps ≡ ps
dict_own d [] x p a = refl
dict_own d (c ∷ []) x p a = refl
dict_own d (c ∷ v ∷ ps) x p a = ap (λ (z : Typ). c ∷ place z v.len ∷ ps) (own_raised (nullability c.dtype) d v.dtype p a)

-- In its normal form a node's children stand just where they are planned.
pub own_places : (b : Body) (d : Typ) (n : ℕ) (ps : List Place) (k : ℕ) → IsNative b → IsNormalBody b d ps → Allows (encoding_of b) d (metadata_of b ps) k → lifted d n b ps ≡ ps
own_places (B.dict x) d n ps k z p a = dict_own d ps x p a
own_places (B.foreign x) d n ps k z p a = absurd z
own_places _ d n ps k z p a = refl

foreign_alike : (d : Typ) (n : ℕ) (ts : Trees) → AreForeignAt d n ts → replicate (length (places ts)) (place d n) ≡ places ts
foreign_alike d n end f = refl
foreign_alike d n (more t ts) f =
    let a = sym f.0.dtype in
    let b = sym f.0.len in
    let c = foreign_alike d n ts f.1 in
    λ i. place (a i) (b i) ∷ c i

-- So do those of a normal node, foreign or not.
pub normal_places : (b : Body) (h : Head) (ts : Trees) → IsNormalBy b h ts → Allows (encoding_of b) h.dtype (metadata_of b (places ts)) (count ts)
    → lifted h.dtype h.len b (places ts) ≡ places ts
normal_places (B.foreign x) h ts n a = foreign_alike h.dtype h.len ts n.children
normal_places (B.dict x) h ts n a = dict_own h.dtype (places ts) x n a
normal_places _ h ts n a = refl
