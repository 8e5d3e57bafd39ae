-- Rows of sound arrays fit their types where nothing in them is opaque.
use Rattle.std.proofs.Common.{ℕ, zero, suc, ◌≡◌, ◌<◌, ◌≤◌, ◌+◌, ◌-◌, ◌*◌, ◌==◌, ◌||◌, ◌⊎◌, inl, inr, List, [], ◌∷◌, Option, Some, None, Bool, true, false, refl, sym, ap, ◌∙◌, subst, arith, length, IsTrue, is_some, unwrap_or, if◌then◌else◌, mul-le-mul_right}
use Rattle.std.proofs.lemmas.Option.{none-some}
use Rattle.std.proofs.lemmas.Bool.Decides.{nat_tests}
use Rattle.vx_trees.specs.Rose.{Roses, node, end, more, label, count}
use Rattle.vx_trees.proofs.LawsOfLists.{heads, tails}
use Rattle.vx_types.specs.Kind as K
use Rattle.vx_types.specs.Kind.{Kind}
use Rattle.vx_types.specs.Typ.{Typ}
use Rattle.vx_numbers.specs.Numbers.{kind_of}
use Rattle.vx_types.specs.Words.{nullability, with_nullability, entries}
use Rattle.vx_types.specs.declared.nullability.Nullability.{Nullability}
use Rattle.vx_types.specs.declared.nullability.Nullability.TheVariants.{Nullable, NonNullable}
use Rattle.vx_numbers.specs.declared.ptype.PType.{PType}
use Rattle.vx_numbers.specs.declared.ptype.PType.TheVariants as P
use Rattle.vx_array_tree.specs.Bytes.{number_at, primitive_at, decimal_at}
use Rattle.vx_types.specs.Fits.{Fits, EachFits, FitBy, IsVariant, member}
use Rattle.vx_array_tree.specs.FitRows.{FitRows}
use Rattle.vx_array_tree.specs.Place.{Place, place, numbers, before_validity, exactly, validity_place, places_at, AllowsValidity, is_len, ptype_of}
use Rattle.vx_array_tree.specs.Rows.{Rows, by_validity, by_validity_with, validity, where_valid, first, second, rest, index_at, IsThere, values_from, values_at}
use Rattle.vx_array_tree.specs.Tree.{Tree, Trees, places, rows_of, rows_below}
use Rattle.vx_types.specs.Value.{Value, opaque, bool, number, decimal, tuple, union, lone, has_opaque, have_opaque}
use Rattle.vx_array_tree.specs.Encodings.Bools as Bools
use Rattle.vx_array_tree.specs.Encodings.Primitives as Primitives
use Rattle.vx_array_tree.specs.Encodings.Decimals as Decimals
use Rattle.vx_array_tree.specs.Encodings.VarBins as VarBins
use Rattle.vx_array_tree.specs.Encodings.VarBinViews as VarBinViews
use Rattle.vx_array_tree.specs.Encodings.Nulls as Nulls
use Rattle.vx_array_tree.specs.Encodings.Lists as Lists
use Rattle.vx_array_tree.specs.Encodings.ListViews as ListViews
use Rattle.vx_array_tree.specs.Encodings.FixedSizeLists as FixedSizeLists
use Rattle.vx_array_tree.specs.Encodings.Maps as Maps
use Rattle.vx_array_tree.specs.Encodings.Exts as Exts
use Rattle.vx_array_tree.specs.Encodings.Structs as Structs
use Rattle.vx_array_tree.specs.Encodings.Unions as Unions
use Rattle.vx_array_tree.specs.Encodings.Dicts as Dicts
use Rattle.vx_types.proofs.LawsOfTypes.{fits_nullable, fits_extension, fits_map, nullable_under}
use Rattle.vx_array_tree.proofs.Options.{mapped, let_through}
use Rattle.vx_array_tree.proofs.Plans.{exactly_is}
use Rattle.vx_array_tree.proofs.LawsOfPlaces.{exactly_count, places_length, rows_count}

abbrev pub FitAll : Trees → Type 0
FitAll end = Unit {0}
FitAll (more t ts) = FitRows (label t).dtype (label t).len (rows_of t) × FitAll ts

-- ---- values after a validity

fits_where : (o : Option Bool) (value : ℕ → Value) (i : ℕ) (d : Typ) → (o ≡ Some false → nullability d ≡ Nullable) → (o ≡ Some true → has_opaque (value i) ≡ false → Fits (value i) d)
    → has_opaque (where_valid o value i) ≡ false → Fits (where_valid o value i) d
fits_where None value i d a b h = absurd (cc)
fits_where (Some false) value i d a b h = (a refl, refl)
fits_where (Some true) value i d a b h = b refl h

-- A validity that stands allows null rows.
rest_allows : (d : Typ) (us : Trees) (i n : ℕ) → before_validity [] n (count us) ≡ Some (places us) → (count us ≡ 1 → nullability d ≡ Nullable) → validity (rows_below us) i ≡ Some false → nullability d ≡ Nullable
rest_allows d end i n p a v = absurd (none_true v)
  where
    none_true : Some true ≡ Some false → ⊥
    none_true e = let q : true ≡ false = cc in absurd (cc)
rest_allows d (more u end) i n p a v = a refl
rest_allows d (more u (more w us)) i n p a v = absurd (cc)

fit_rows : (d : Typ) (us : Trees) (n : ℕ) (value : ℕ → Value) (count_of : ℕ → ℕ) → before_validity [] n (count us) ≡ Some (places us) → (count us ≡ 1 → nullability d ≡ Nullable)
    → ((i : ℕ) → i < n → IsThere (validity (rows_below us)) i → has_opaque (value i) ≡ false → Fits (value i) d) → (IsVariant d → ⊥) → FitRows d n (by_validity_with n (validity (rows_below us)) value count_of)
fit_rows d us n value count_of p a f nv = record {
  fits = λ i l h. fits_where (validity (rows_below us) i) value i d (λ v. rest_allows d us i n p a v) (λ v. f i l v) h;
  missing = λ i l v. rest_allows d us i n p a v;
  whole = λ k i l. absurd (nv k);
}

fit_leaf : (d : Typ) (us : Trees) (n : ℕ) (value : ℕ → Value) → before_validity [] n (count us) ≡ Some (places us) → (count us ≡ 1 → nullability d ≡ Nullable) → ((i : ℕ) → Fits (value i) d) → (IsVariant d → ⊥) → FitRows d n (by_validity n (validity (rows_below us)) value)
fit_leaf d us n value p a f nv = record {
  fits = λ i l h. fits_where (validity (rows_below us) i) value i d (λ v. rest_allows d us i n p a v) (λ v k. f i) h;
  missing = λ i l v. rest_allows d us i n p a v;
  whole = λ k i l. absurd (nv k);
}

-- ---- plain encodings

pub nulls_fit : (d : Typ) (n k : ℕ) (ps : List Place) → Nulls.plan d n k ≡ Some ps → FitRows d n (Nulls.rows n)
nulls_fit (node K.null end) n k ps p = record { fits = λ i l h. (refl, refl); missing = λ i l v. refl; whole = λ k i l. absurd k }
nulls_fit _ n k ps p = absurd (cc)

pub bools_fit : (d : Typ) (n : ℕ) (x : Bools.Data) (us : Trees) → Bools.plan d n (count us) ≡ Some (places us) → AllowsValidity d 0 (count us) → FitRows d n (Bools.rows n x (rows_below us))
bools_fit (node (K.boolean m) end) n x us p a = fit_leaf (node (K.boolean m) end) us n (λ i. lone (bool (Bools.bit_at x.bits.bytes (x.offset + i)))) p a (λ i. (tt, refl)) (λ z. z)
bools_fit _ n x us p a = absurd (cc)

kind_at : (p : PType) (bytes : List ℕ) → kind_of (number_at p bytes) ≡ p
kind_at P.U8 bytes = refl
kind_at P.U16 bytes = refl
kind_at P.U32 bytes = refl
kind_at P.U64 bytes = refl
kind_at P.I8 bytes = refl
kind_at P.I16 bytes = refl
kind_at P.I32 bytes = refl
kind_at P.I64 bytes = refl
kind_at P.F16 bytes = refl
kind_at P.F32 bytes = refl
kind_at P.F64 bytes = refl

pub primitives_fit : (d : Typ) (n : ℕ) (x : Primitives.Data) (us : Trees) → Primitives.plan d n (count us) ≡ Some (places us) → AllowsValidity d 0 (count us) → FitRows d n (Primitives.rows d n x (rows_below us))
primitives_fit (node (K.primitive q m) end) n x us p a =
    fit_leaf (node (K.primitive q m) end) us n (λ i. lone (number (primitive_at q x.values.bytes i))) p a (λ i. (kind_at q _, refl)) (λ z. z)
primitives_fit _ n x us p a = absurd (cc)

pub decimals_fit : (d : Typ) (n : ℕ) (x : Decimals.Data) (us : Trees) → Decimals.plan d n (count us) ≡ Some (places us) → AllowsValidity d 0 (count us) → FitRows d n (Decimals.rows n x (rows_below us))
decimals_fit (node (K.decimal q z m) end) n x us p a =
    fit_leaf (node (K.decimal q z m) end) us n (λ i. lone (decimal (decimal_at x.values_type x.values.bytes i))) p a (λ i. (tt, refl)) (λ z. z)
decimals_fit _ n x us p a = absurd (cc)

pub varbinviews_fit : (d : Typ) (n : ℕ) (x : VarBinViews.Data) (us : Trees) → VarBinViews.plan d n (count us) ≡ Some (places us) → AllowsValidity d 0 (count us) → FitRows d n (VarBinViews.rows d n x (rows_below us))
varbinviews_fit (node (K.utf8 m) end) n x us p a = fit_leaf (node (K.utf8 m) end) us n (λ i. lone (VarBins.mark_of (node (K.utf8 m) end) (unwrap_or (VarBinViews.bytes_at x i) []))) p a (λ i. (tt, refl)) (λ z. z)
varbinviews_fit (node (K.binary m) end) n x us p a = fit_leaf (node (K.binary m) end) us n (λ i. lone (VarBins.mark_of (node (K.binary m) end) (unwrap_or (VarBinViews.bytes_at x i) []))) p a (λ i. (tt, refl)) (λ z. z)
varbinviews_fit _ n x us p a = absurd (cc)

-- The first child's place, and what is planned of the others.
pub record First (p : Place) (ps : List Place) (n : ℕ) (t : Tree) (us : Trees) : Type 0 where
  pub place_is : place (label t).dtype (label t).len ≡ p
  pub others : before_validity ps n (count us) ≡ Some (places us)

first_planned : (p : Place) (ps : List Place) (n : ℕ) (t : Tree) (us : Trees) → before_validity (p ∷ ps) n (suc (count us)) ≡ Some (places (more t us)) → First p ps n t us
first_planned p ps n t us e =
    let m = mapped (λ (qs : List Place). p ∷ qs) (before_validity ps n (count us)) (places (more t us)) e in
    let q : place (label t).dtype (label t).len ≡ p = heads _ _ _ _ (m.1) in
    let r : places us ≡ m.0 = tails _ _ _ _ (m.1) in
    record { place_is = q; others = m.2 ∙ ap (λ z. Some z) (sym r) }

varbin_rows_fit : (d : Typ) (n : ℕ) (v : VarBins.Metadata) (x : VarBins.Data) (us : Trees) → ((bs : List ℕ) → Fits (lone (VarBins.mark_of d bs)) d) → (IsVariant d → ⊥) → VarBins.planned n v (count us) ≡ Some (places us) → AllowsValidity d 1 (count us)
    → FitRows d n (VarBins.rows d n x (rows_below us))
varbin_rows_fit d n v x end f nv p a = absurd (none-some _ (let_through (is_len (suc n)) _ _ p))
varbin_rows_fit d n v x (more t us) f nv p a =
    let q = first_planned (place (numbers v) (suc n)) [] n t us (let_through (is_len (suc n)) _ _ p) in
    fit_leaf d us n (λ i. lone (VarBins.mark_of d (VarBins.bytes_at x.bytes.bytes (rows_of t) i))) q.others (λ e. a (ap (λ z. suc z) e)) (λ i. f _) nv

pub varbins_fit : (d : Typ) (n : ℕ) (v : VarBins.Metadata) (x : VarBins.Data) (us : Trees) → VarBins.plan d n v (count us) ≡ Some (places us) → AllowsValidity d 1 (count us) → FitRows d n (VarBins.rows d n x (rows_below us))
varbins_fit (node (K.utf8 m) end) n v x us p a = varbin_rows_fit (node (K.utf8 m) end) n v x us (λ bs. (tt, refl)) (λ z. z) p a
varbins_fit (node (K.binary m) end) n v x us p a = varbin_rows_fit (node (K.binary m) end) n v x us (λ bs. (tt, refl)) (λ z. z) p a
varbins_fit _ n v x us p a = absurd (cc)

-- ---- lists

pub or_left : (a b : Bool) → (a || b) ≡ false → a ≡ false
or_left true b e = e
or_left false b e = refl

pub or_right : (a b : Bool) → (a || b) ≡ false → b ≡ false
or_right true b e = absurd (cc)
or_right false b e = e

each_from : (r : Rows) (e : Typ) (n k i : ℕ) → FitRows e n r → i + k ≤ n → have_opaque (values_from r i k) ≡ false → EachFits (values_from r i k) e
each_from r e n zero i f l h = tt
each_from r e n (suc k) i f l h =
    (f.fits i (omega arith) (or_left (has_opaque (r.row i)) _ h), each_from r e n k (suc i) f (omega arith) (or_right (has_opaque (r.row i)) _ h))

rising_to : (r : Rows) (n k : ℕ) → ((i : ℕ) → i < n → index_at r i ≤ index_at r (suc i)) → (i : ℕ) → i + k ≡ n → index_at r i ≤ index_at r n
rising_to r n zero f i e = let q : i ≡ n = omega arith in subst (λ z. index_at r i ≤ index_at r z) q (omega arith)
rising_to r n (suc k) f i e =
    let a = f i (omega arith) in
    let b = rising_to r n k f (suc i) (omega arith) in
    omega arith

pub retype : (t : Tree) (e : Typ) (m : ℕ) → place (label t).dtype (label t).len ≡ place e m → FitRows (label t).dtype (label t).len (rows_of t) → FitRows e m (rows_of t)
retype t e m q f = subst (λ (p : Place). FitRows p.dtype p.len (rows_of t)) q f

list_at : (m : Nullability) (e : Typ) (n : ℕ) (v : Lists.Metadata) (us : Trees) → before_validity (place e v.elements_len ∷ place (numbers v.offset_ptype) (suc n) ∷ []) n (count us) ≡ Some (places us) → AllowsValidity (node (K.list m) (more e end)) 2 (count us)
    → VarBins.AreOffsets (second (rows_below us)) n v.elements_len → FitAll us → FitRows (node (K.list m) (more e end)) n (Lists.rows n (rows_below us))
list_at m e n v end p a c f = absurd (none-some _ p)
list_at m e n v (more t end) p a c f = absurd (none-some _ p)
list_at m e n v (more t (more o us)) p a c f =
    let x = first_planned (place e v.elements_len) (place (numbers v.offset_ptype) (suc n) ∷ []) n t (more o us) p in
    let y = first_planned (place (numbers v.offset_ptype) (suc n)) [] n o us x.others in
    fit_rows (node (K.list m) (more e end)) us n (λ i. node tuple (values_from (rows_of t) (index_at (rows_of o) i) (Lists.size_at (rows_of o) i))) _ y.others (λ z. a (ap (λ w. suc (suc w)) z))
    (λ i l w h.
    let up = c.rising i l in
    let top = rising_to (rows_of o) n (n - suc i) c.rising (suc i) (omega arith) in
    let within = c.within in
    each_from (rows_of t) e v.elements_len (Lists.size_at (rows_of o) i) (index_at (rows_of o) i) (retype t e v.elements_len x.place_is f.0) (omega arith) h) (λ z. z)

pub lists_fit : (d : Typ) (n : ℕ) (v : Lists.Metadata) (us : Trees) → Lists.plan d n v (count us) ≡ Some (places us) → AllowsValidity d 2 (count us) → VarBins.AreOffsets (second (rows_below us)) n v.elements_len → FitAll us → FitRows d n (Lists.rows n (rows_below us))
lists_fit (node (K.list m) (more e end)) n v us p a c f = list_at m e n v us (let_through (is_len (suc n)) _ _ p) a c f
lists_fit _ n v us p a c f = absurd (cc)

views_at : (m : Nullability) (e : Typ) (n : ℕ) (v : ListViews.Metadata) (us : Trees) → before_validity (place e v.elements_len ∷ place (numbers v.offset_ptype) n ∷ place (numbers v.size_ptype) n ∷ []) n (count us) ≡ Some (places us) → AllowsValidity (node (K.list m) (more e end)) 3 (count us)
    → ((i : ℕ) → i < n → IsThere (validity (rest (rest (rest (rows_below us))))) i → index_at (second (rows_below us)) i + index_at (first (rest (rest (rows_below us)))) i ≤ v.elements_len) → FitAll us
    → FitRows (node (K.list m) (more e end)) n (ListViews.rows n (rows_below us))
views_at m e n v end p a c f = absurd (none-some _ p)
views_at m e n v (more t end) p a c f = absurd (none-some _ p)
views_at m e n v (more t (more o end)) p a c f = absurd (none-some _ p)
views_at m e n v (more t (more o (more z us))) p a c f =
    let x = first_planned (place e v.elements_len) (place (numbers v.offset_ptype) n ∷ place (numbers v.size_ptype) n ∷ []) n t (more o (more z us)) p in
    let y = first_planned (place (numbers v.offset_ptype) n) (place (numbers v.size_ptype) n ∷ []) n o (more z us) x.others in
    let w = first_planned (place (numbers v.size_ptype) n) [] n z us y.others in
    fit_rows (node (K.list m) (more e end)) us n (λ i. node tuple (values_from (rows_of t) (index_at (rows_of o) i) (index_at (rows_of z) i))) _ w.others (λ q. a (ap (λ k. suc (suc (suc k))) q))
    (λ i l k h. each_from (rows_of t) e v.elements_len (index_at (rows_of z) i) (index_at (rows_of o) i) (retype t e v.elements_len x.place_is f.0) (c i l k) h) (λ q. q)

pub listviews_fit : (d : Typ) (n : ℕ) (v : ListViews.Metadata) (us : Trees) → ListViews.plan d n v (count us) ≡ Some (places us) → AllowsValidity d 3 (count us)
    → ((i : ℕ) → i < n → IsThere (validity (rest (rest (rest (rows_below us))))) i → index_at (second (rows_below us)) i + index_at (first (rest (rest (rows_below us)))) i ≤ v.elements_len) → FitAll us → FitRows d n (ListViews.rows n (rows_below us))
listviews_fit (node (K.list m) (more e end)) n v us p a c f = views_at m e n v us p a c f
listviews_fit _ n v us p a c f = absurd (cc)

-- A list of one size has that many elements.
from_count : (r : Rows) (i k : ℕ) → count (values_from r i k) ≡ k
from_count r i zero = refl
from_count r i (suc k) = ap (λ z. suc z) (from_count r (suc i) k)

product_room : (s n i : ℕ) → i < n → i * s + s ≤ n * s
product_room s n i l = grind (arith, mul-le-mul_right)

fixed_at : (s : ℕ) (m : Nullability) (e : Typ) (n : ℕ) (us : Trees) → before_validity (place e (n * s) ∷ []) n (count us) ≡ Some (places us) → AllowsValidity (node (K.fixed_size_list s m) (more e end)) 1 (count us) → FitAll us
    → FitRows (node (K.fixed_size_list s m) (more e end)) n (FixedSizeLists.rows (node (K.fixed_size_list s m) (more e end)) n (rows_below us))
fixed_at s m e n end p a f = absurd (none-some _ p)
fixed_at s m e n (more t us) p a f =
    let x = first_planned (place e (n * s)) [] n t us p in
    fit_rows (node (K.fixed_size_list s m) (more e end)) us n (λ i. node tuple (values_from (rows_of t) (i * s) s)) _ x.others (λ q. a (ap (λ k. suc k) q))
    (λ i l k h. (from_count (rows_of t) (i * s) s, each_from (rows_of t) e (n * s) s (i * s) (retype t e (n * s) x.place_is f.0) (product_room s n i l) h)) (λ q. q)

pub fixed_fit : (d : Typ) (n : ℕ) (us : Trees) → FixedSizeLists.plan d n (count us) ≡ Some (places us) → AllowsValidity d 1 (count us) → FitAll us → FitRows d n (FixedSizeLists.rows d n (rows_below us))
fixed_fit (node (K.fixed_size_list s m) (more e end)) n us p a f = fixed_at s m e n us (let_through (is_len (n * s)) _ _ p) a f
fixed_fit _ n us p a f = absurd (cc)

-- ---- by one child

nil_cons : (x : Place) (xs : List Place) → [] ≡ x ∷ xs → ⊥
nil_cons x xs e = cc

map_at : (b : Bool) (m : Nullability) (x y : Typ) (n : ℕ) (us : Trees) → places us ≡ place (node (K.list m) (more (entries (record { key = x; value = y; keys_sorted = b })) end)) n ∷ [] → FitAll us
    → FitRows (node (K.map b m) (more x (more y end))) n (Maps.rows n (rows_below us))
map_at b m x y n end p f = absurd (nil_cons _ _ p)
map_at b m x y n (more t us) p f =
    let g = retype t (node (K.list m) (more (entries (record { key = x; value = y; keys_sorted = b })) end)) n (heads _ _ _ _ p) f.0 in
    record { fits = λ i l h. fits_map b m x y ((rows_of t).row i) (g.fits i l h); missing = λ i l v. g.missing i l v; whole = λ k i l. absurd k }

pub maps_fit : (d : Typ) (n : ℕ) (us : Trees) → Maps.plan d n (count us) ≡ Some (places us) → FitAll us → FitRows d n (Maps.rows n (rows_below us))
maps_fit (node (K.map b m) (more x (more y end))) n us p f = map_at b m x y n us (exactly_is (place (node (K.list m) (more (entries (record { key = x; value = y; keys_sorted = b })) end)) n ∷ []) (count us) (places us) p) f
maps_fit _ n us p f = absurd (cc)

ext_at : (id bs : List ℕ) (e : Typ) (n : ℕ) (us : Trees) → places us ≡ place e n ∷ [] → FitAll us → FitRows (node (K.extension id bs) (more e end)) n (Exts.rows n (rows_below us))
ext_at id bs e n end p f = absurd (nil_cons _ _ p)
ext_at id bs e n (more t us) p f =
    let g = retype t e n (heads _ _ _ _ p) f.0 in
    record { fits = λ i l h. fits_extension id bs e ((rows_of t).row i) (g.fits i l h); missing = λ i l v. g.missing i l v; whole = λ k i l. absurd k }

pub exts_fit : (d : Typ) (n : ℕ) (us : Trees) → Exts.plan d n (count us) ≡ Some (places us) → FitAll us → FitRows d n (Exts.rows n (rows_below us))
exts_fit (node (K.extension id bs) (more e end)) n us p f = ext_at id bs e n us (exactly_is (place e n ∷ []) (count us) (places us) p) f
exts_fit _ n us p f = absurd (cc)

-- ---- unions

-- The member that a tag names, and its row's value.
pub record MemberFits (tag : ℕ) (ids : List ℕ) (ts : Roses Kind) (r : Rows) (i : ℕ) : Type 0 where
  pub type_is : Typ
  pub named : member tag ids ts ≡ Some type_is
  pub fits : has_opaque (r.row i) ≡ false → Fits (r.row i) type_is

member_found : (b : Bool) (tag : ℕ) (ids : List ℕ) (d : Typ) (ds : Roses Kind) (t : Tree) (us : Trees) (n i : ℕ) → i < n → FitRows d n (rows_of t)
    → (IsTrue (is_some (Unions.member_rows tag ids (rows_below us))) → (x : Typ) × (member tag ids ds ≡ Some x) × (has_opaque ((Unions.rows_or_none (Unions.member_rows tag ids (rows_below us))).row i) ≡ false → Fits ((Unions.rows_or_none (Unions.member_rows tag ids (rows_below us))).row i) x))
    → IsTrue (is_some (if b then Some (rows_of t) else Unions.member_rows tag ids (rows_below us)))
    → (x : Typ) × ((if b then Some d else member tag ids ds) ≡ Some x) × (has_opaque ((Unions.rows_or_none (if b then Some (rows_of t) else Unions.member_rows tag ids (rows_below us))).row i) ≡ false
    → Fits ((Unions.rows_or_none (if b then Some (rows_of t) else Unions.member_rows tag ids (rows_below us))).row i) x)
member_found true tag ids d ds t us n i l f ih e = (d, refl, λ h. f.fits i l h)
member_found false tag ids d ds t us n i l f ih e = ih e

member_fits : (tag : ℕ) (ids : List ℕ) (ds : Roses Kind) (us : Trees) (n i : ℕ) → i < n → places us ≡ places_at ds n → FitAll us → IsTrue (is_some (Unions.member_rows tag ids (rows_below us)))
    → (x : Typ) × (member tag ids ds ≡ Some x) × (has_opaque ((Unions.rows_or_none (Unions.member_rows tag ids (rows_below us))).row i) ≡ false → Fits ((Unions.rows_or_none (Unions.member_rows tag ids (rows_below us))).row i) x)
member_fits tag [] ds us n i l p f e = absurd (cc)
member_fits tag (x ∷ ids) ds end n i l p f e = absurd (cc)
member_fits tag (x ∷ ids) end (more t us) n i l p f e = absurd (nil_cons _ _ (sym p))
member_fits tag (x ∷ ids) (more d ds) (more t us) n i l p f e =
    member_found (tag == x) tag ids d ds t us n i l (retype t d n (heads _ _ _ _ p) f.0) (λ k. member_fits tag ids ds us n i l (tails _ _ _ _ p) f.1 k) e

union_at : (ns : List (List ℕ)) (ids : List ℕ) (m : Nullability) (ds : Roses Kind) (n : ℕ) (us : Trees) → places us ≡ place (node (K.primitive P.U8 m) end) n ∷ places_at ds n → Unions.Content (node (K.union ns ids m) ds) n (rows_below us) → FitAll us
    → FitRows (node (K.union ns ids m) ds) n (Unions.rows (node (K.union ns ids m) ds) n (rows_below us))
union_at ns ids m ds n end p c f = absurd (nil_cons _ _ p)
union_at ns ids m ds n (more t us) p c f =
    let g = retype t (node (K.primitive P.U8 m) end) n (heads _ _ _ _ p) f.0 in
    record {
      fits = λ i l h. fits_where ((rows_of t).valid i) (λ j. node (union (index_at (rows_of t) j)) (more ((Unions.rows_or_none (Unions.member_rows (index_at (rows_of t) j) ids (rows_below us))).row j) end)) i (node (K.union ns ids m) ds)
          (λ v. g.missing i l v)
          (λ v k.
          let x = member_fits (index_at (rows_of t) i) ids ds us n i l (tails _ _ _ _ p) f.1 (c i l v).named in
          (x.0, x.1, (x.2 (or_left _ false k), refl))) h;
      missing = λ i l v. g.missing i l v;
      whole = λ k i l. absurd k;
    }

pub unions_fit : (d : Typ) (n : ℕ) (us : Trees) → Unions.plan d n (count us) ≡ Some (places us) → Unions.Content d n (rows_below us) → FitAll us → FitRows d n (Unions.rows d n (rows_below us))
unions_fit (node (K.union ns ids m) ds) n us p c f = union_at ns ids m ds n us (exactly_is (place (node (K.primitive P.U8 m) end) n ∷ places_at ds n) (count us) (places us) p) c f
unions_fit _ n us p c f = absurd (cc)

-- ---- dictionaries

raised_fits : (m : Nullability) (e d : Typ) (v : Value) → Dicts.raised m e ≡ d → Fits v e → Fits v d
raised_fits Nullable e d v q f = subst (λ (z : Typ). Fits v z) q (fits_nullable v e f)
raised_fits NonNullable e d v q f = subst (λ (z : Typ). Fits v z) q f

raised_nullable : (m : Nullability) (e d : Typ) → Dicts.raised m e ≡ d → nullability e ≡ Nullable → nullability d ≡ Nullable
raised_nullable Nullable e d q n = subst (λ (z : Typ). nullability z ≡ Nullable) q (nullable_under e)
raised_nullable NonNullable e d q n = subst (λ (z : Typ). nullability z ≡ Nullable) q n

dict_missing : (o : Option Bool) (valid : ℕ → Option Bool) (j : ℕ) (d : Typ) → (o ≡ Some false → nullability d ≡ Nullable) → (o ≡ Some true → valid j ≡ Some false → nullability d ≡ Nullable) → Dicts.valid_by o valid j ≡ Some false → nullability d ≡ Nullable
dict_missing (Some true) valid j d a b v = b refl v
dict_missing (Some false) valid j d a b v = a refl
dict_missing None valid j d a b v = absurd (none-some _ v)

still_variant : (m : Nullability) (e : Typ) → IsVariant (with_nullability m e) → IsVariant e
still_variant m (node (K.variant x) ts) k = k
still_variant m _ k = absurd k

raised_kind : (m : Nullability) (e d : Typ) → Dicts.raised m e ≡ d → IsVariant d → IsVariant e
raised_kind Nullable e d q k = still_variant Nullable e (subst (λ (z : Typ). IsVariant z) (sym q) k)
raised_kind NonNullable e d q k = subst (λ (z : Typ). IsVariant z) (sym q) k

whole_where : (o : Option Bool) (value : ℕ → Value) (i : ℕ) → (o ≡ Some true → (has_opaque (value i) ≡ false) ⊎ (value i ≡ lone opaque)) → (has_opaque (where_valid o value i) ≡ false) ⊎ (where_valid o value i ≡ lone opaque)
whole_where None value i k = inr refl
whole_where (Some false) value i k = inl refl
whole_where (Some true) value i k = k refl

-- Codes of a type and values of another, which the codes' nullability raises to the dictionary's.
dict_at : (d : Typ) (n : ℕ) (c v : Tree) (us : Trees) → Dicts.raised (nullability (label c).dtype) (label v).dtype ≡ d → (label c).len ≡ n → (nullability (label c).dtype ≡ Nullable → nullability d ≡ Nullable)
    → ((i : ℕ) → i < n → IsThere (rows_of c).valid i → index_at (rows_of c) i < (label v).len) → FitAll (more c (more v us)) → FitRows d n (Dicts.rows n (rows_below (more c (more v us))))
dict_at d n c v us q k up within f = record {
  fits = λ i l h. fits_where ((rows_of c).valid i) (λ j. (rows_of v).row (index_at (rows_of c) j)) i d
      (λ z. up (f.0.missing i (omega arith) z))
      (λ z w. raised_fits (nullability (label c).dtype) (label v).dtype d ((rows_of v).row (index_at (rows_of c) i)) q (f.1.0.fits (index_at (rows_of c) i) (within i l z) w)) h;
  missing = λ i l z. dict_missing ((rows_of c).valid i) (rows_of v).valid (index_at (rows_of c) i) d
      (λ w. up (f.0.missing i (omega arith) w))
      (λ w x. raised_nullable (nullability (label c).dtype) (label v).dtype d q (f.1.0.missing (index_at (rows_of c) i) (within i l w) x)) z;
  whole = λ x i l. whole_where ((rows_of c).valid i) (λ j. (rows_of v).row (index_at (rows_of c) j)) i
      (λ z. f.1.0.whole (raised_kind (nullability (label c).dtype) (label v).dtype d q x) (index_at (rows_of c) i) (within i l z));
}

-- How many values a dictionary has.
abbrev pub second_len : Trees → ℕ
second_len (more c (more v us)) = (label v).len
second_len _ = 0

pub dicts_fit : (d : Typ) (n : ℕ) (x : Dicts.Data) (us : Trees) → Dicts.plan d n (Dicts.metadata_of x (places us)) (count us) ≡ Some (Dicts.lifted (places us)) → Dicts.Allows d (Dicts.metadata_of x (places us))
    → ((i : ℕ) → i < n → IsThere (first (rows_below us)).valid i → index_at (first (rows_below us)) i < (second_len us)) → FitAll us → FitRows d n (Dicts.rows n (rows_below us))
dicts_fit d n x end p a w f = absurd (none-some _ p)
dicts_fit d n x (more c end) p a w f = absurd (none-some _ p)
dicts_fit d n x (more c (more v us)) p a w f =
    let e = exactly_is (place (node (K.primitive (ptype_of (label c).dtype) (nullability (label c).dtype)) end) n ∷ place d (label v).len ∷ []) (suc (suc (count us))) (Dicts.lifted (places (more c (more v us)))) p in
    let t = heads _ _ _ _ (tails _ _ _ _ e) in
    let k = heads _ _ _ _ e in
    dict_at d n c v us (ap (λ z. z.dtype) t) (ap (λ z. z.len) k) a w f

-- ---- structures

fields_fit : (ds : Roses Kind) (us : Trees) (n i : ℕ) → i < n → places us ≡ places_at ds n → FitAll us → have_opaque (values_at (rows_below us) i) ≡ false → FitBy (values_at (rows_below us) i) ds
fields_fit end end n i l p f h = refl
fields_fit end (more t us) n i l p f h = absurd (nil_cons _ _ (sym p))
fields_fit (more d ds) end n i l p f h = absurd (nil_cons _ _ p)
fields_fit (more d ds) (more t us) n i l p f h =
    ((retype t d n (heads _ _ _ _ p) f.0).fits i l (or_left (has_opaque ((rows_of t).row i)) _ h), fields_fit ds us n i l (tails _ _ _ _ p) f.1 (or_right (has_opaque ((rows_of t).row i)) _ h))

struct_by : (b : Bool) (ns : List (List ℕ)) (m : Nullability) (ds : Roses Kind) (n : ℕ) (us : Trees) → (length (rows_below us) == suc (count ds)) ≡ b
    → ((i : ℕ) → i < n → (if b then validity (rows_below us) i else Some true) ≡ Some false → m ≡ Nullable)
    → ((i : ℕ) → i < n → have_opaque (values_at (if b then rest (rows_below us) else rows_below us) i) ≡ false → FitBy (values_at (if b then rest (rows_below us) else rows_below us) i) ds)
    → FitRows (node (K.structure ns m) ds) n (Structs.rows (node (K.structure ns m) ds) n (rows_below us))
struct_by b ns m ds n us e miss fit =
    let value : Bool → ℕ → Value = λ (z : Bool) (j : ℕ). node tuple (values_at (if z then rest (rows_below us) else rows_below us) j) in
    let valid : Bool → ℕ → Option Bool = λ (z : Bool) (i : ℕ). if z then validity (rows_below us) i else Some true in
    let P : Bool → Type 0 = λ (z : Bool). (i : ℕ) → i < n → has_opaque (where_valid (valid z i) (value z) i) ≡ false → Fits (where_valid (valid z i) (value z) i) (node (K.structure ns m) ds) in
    let Q : Bool → Type 0 = λ (z : Bool). (i : ℕ) → i < n → valid z i ≡ Some false → m ≡ Nullable in
    let p : P b = λ i l h. fits_where (valid b i) (value b) i (node (K.structure ns m) ds) (λ v. miss i l v) (λ v k. fit i l k) h in
    record { fits = subst P (sym e) p; missing = subst Q (sym e) miss; whole = λ k i l. absurd k }

never_false : Some true ≡ Some false → ⊥
never_false e = let q : true ≡ false = cc in absurd (cc)

struct_at : (o : Option (List Place)) (ns : List (List ℕ)) (m : Nullability) (ds : Roses Kind) (n : ℕ) (us : Trees) → exactly (places_at ds n) (count us) ≡ o
    → elim o as (λ _. Option (List Place)) [ Some qs ↦ Some qs | None ↦ exactly (validity_place n ∷ places_at ds n) (count us) ] ≡ Some (places us)
    → AllowsValidity (node (K.structure ns m) ds) (count ds) (count us) → FitAll us → FitRows (node (K.structure ns m) ds) n (Structs.rows (node (K.structure ns m) ds) n (rows_below us))
struct_at (Some qs) ns m ds n us e p a f =
    let c = exactly_count (places_at ds n) (count us) qs e ∙ places_length ds n in
    let q = exactly_is (places_at ds n) (count us) (places us) (e ∙ p) in
    let k = rows_count us in
    struct_by false ns m ds n us (grind (arith, nat_tests)) (λ i l v. absurd (never_false v)) (λ i l h. fields_fit ds us n i l q f h)
struct_at None ns m ds n end e p a f = absurd (none-some _ p)
struct_at None ns m ds n (more t us) e p a f =
    let x = exactly_is (validity_place n ∷ places_at ds n) (suc (count us)) (places (more t us)) p in
    let c : suc (count us) ≡ suc (length (places_at ds n)) = exactly_count (validity_place n ∷ places_at ds n) (suc (count us)) (places (more t us)) p in
    let w = places_length ds n in
    let k = rows_count us in
    struct_by true ns m ds n (more t us) (grind (arith, nat_tests)) (λ i l v. a (omega arith)) (λ i l h. fields_fit ds us n i l (tails _ _ _ _ x) f.1 h)

pub structs_fit : (d : Typ) (n : ℕ) (us : Trees) → Structs.plan d n (count us) ≡ Some (places us) → AllowsValidity d (Structs.width_of d) (count us) → FitAll us → FitRows d n (Structs.rows d n (rows_below us))
structs_fit (node (K.structure ns m) ds) n us p a f = struct_at (exactly (places_at ds n) (count us)) ns m ds n us refl p a f
structs_fit _ n us p a f = absurd (cc)
