-- A plan has one place for each child, whatever the encoding.
use Rattle.std.proofs.Common.{ℕ, zero, suc, ◌≡◌, ◌*◌, List, [], ◌∷◌, Some, None, sym, ap, ◌∙◌, inl, inr, length}
use Rattle.std.proofs.lemmas.List.{length-replicate}
use Rattle.std.proofs.lemmas.Option.{same_Some}
use Rattle.std.specs.Prelude.{◌⊎◌, replicate}
use Rattle.vx_trees.specs.Rose.{node, end, more}
use Rattle.vx_types.specs.Kind as K
use Rattle.vx_types.specs.Typ.{Typ}
use Rattle.vx_types.specs.Words.{entries}
use Rattle.vx_numbers.specs.declared.ptype.PType.{PType}
use Rattle.vx_numbers.specs.declared.ptype.PType.TheVariants.{U8}
use Rattle.vx_array_tree.specs.Encoding.{Encoding}
use Rattle.vx_array_tree.specs.Encoding as E
use Rattle.vx_array_tree.specs.Encodings.Nulls as Nulls
use Rattle.vx_array_tree.specs.Encodings.Bools as Bools
use Rattle.vx_array_tree.specs.Encodings.Primitives as Primitives
use Rattle.vx_array_tree.specs.Encodings.Decimals as Decimals
use Rattle.vx_array_tree.specs.Encodings.VarBins as VarBins
use Rattle.vx_array_tree.specs.Encodings.VarBinViews as VarBinViews
use Rattle.vx_array_tree.specs.Encodings.FixedSizeLists as FixedSizeLists
use Rattle.vx_array_tree.specs.Encodings.Structs as Structs
use Rattle.vx_array_tree.specs.Encodings.Exts as Exts
use Rattle.vx_array_tree.specs.Encodings.Lists as Lists
use Rattle.vx_array_tree.specs.Encodings.ListViews as ListViews
use Rattle.vx_array_tree.specs.Encodings.Maps as Maps
use Rattle.vx_array_tree.specs.Encodings.Unions as Unions
use Rattle.vx_array_tree.specs.Encodings.Variants as Variants
use Rattle.vx_array_tree.specs.Encodings.Dicts as Dicts
use Rattle.vx_array_tree.specs.Metadata.{Metadata}
use Rattle.vx_array_tree.specs.Metadata as M
use Rattle.vx_array_tree.specs.Place.{Place, place, numbers, exactly, before_validity, after_validity, validity_place, places_at, is_len}
use Rattle.vx_array_tree.specs.Table.{plan_of}
use Rattle.vx_array_tree.proofs.LawsOfPlaces.{exactly_count, after_is}
use Rattle.vx_array_tree.proofs.Options.{mapped, let_through}
use Rattle.vx_array_tree.proofs.Plans.{exactly_is}

-- ---- places, alone and beside a validity

exactly_as_many : (ps : List Place) (k : ℕ) (qs : List Place) → exactly ps k ≡ Some qs → length qs ≡ k
exactly_as_many ps k qs e = ap (λ (rs : List Place). length rs) (exactly_is ps k qs e) ∙ sym (exactly_count ps k qs e)

before_as_many : (ps : List Place) (n k : ℕ) (qs : List Place) → before_validity ps n k ≡ Some qs → length qs ≡ k
before_as_many [] n zero qs e = let q : qs ≡ [] = cc in ap (λ (rs : List Place). length rs) q
before_as_many [] n (suc zero) qs e = let q : qs ≡ validity_place n ∷ [] = cc in ap (λ (rs : List Place). length rs) q
before_as_many [] n (suc (suc k)) qs e = absurd (cc)
before_as_many (p ∷ ps) n zero qs e = absurd (cc)
before_as_many (p ∷ ps) n (suc k) qs e =
    let m = mapped (λ (rs : List Place). p ∷ rs) (before_validity ps n k) qs e in
    ap (λ (rs : List Place). length rs) m.1 ∙ ap (λ n. suc n) (before_as_many ps n k m.0 m.2)

after_as_many : (ps : List Place) (n k : ℕ) (qs : List Place) → after_validity ps n k ≡ Some qs → length qs ≡ k
after_as_many ps n k qs e = by (after_is ps n k qs e).ways
  where
    by : ((k ≡ length ps) × (qs ≡ ps)) ⊎ ((k ≡ suc (length ps)) × (qs ≡ validity_place n ∷ ps)) → length qs ≡ k
    by (inl w) = ap (λ (rs : List Place). length rs) w.1 ∙ sym w.0
    by (inr w) = ap (λ (rs : List Place). length rs) w.1 ∙ sym w.0

-- ---- encoding by encoding

nulls : (d : Typ) (n k : ℕ) (qs : List Place) → Nulls.plan d n k ≡ Some qs → length qs ≡ k
nulls (node K.null end) n k qs e = exactly_as_many [] k qs e
nulls _ n k qs e = absurd (cc)

bools : (d : Typ) (n k : ℕ) (qs : List Place) → Bools.plan d n k ≡ Some qs → length qs ≡ k
bools (node (K.boolean m) end) n k qs e = before_as_many [] n k qs e
bools _ n k qs e = absurd (cc)

primitives : (d : Typ) (n k : ℕ) (qs : List Place) → Primitives.plan d n k ≡ Some qs → length qs ≡ k
primitives (node (K.primitive p m) end) n k qs e = before_as_many [] n k qs e
primitives _ n k qs e = absurd (cc)

decimals : (d : Typ) (n k : ℕ) (qs : List Place) → Decimals.plan d n k ≡ Some qs → length qs ≡ k
decimals (node (K.decimal p s m) end) n k qs e = before_as_many [] n k qs e
decimals _ n k qs e = absurd (cc)

varbins : (d : Typ) (n : ℕ) (p : PType) (k : ℕ) (qs : List Place) → VarBins.plan d n p k ≡ Some qs → length qs ≡ k
varbins (node (K.utf8 m) end) n p k qs e = before_as_many (place (numbers p) (suc n) ∷ []) n k qs (let_through (is_len (suc n)) _ _ e)
varbins (node (K.binary m) end) n p k qs e = before_as_many (place (numbers p) (suc n) ∷ []) n k qs (let_through (is_len (suc n)) _ _ e)
varbins _ n p k qs e = absurd (cc)

varbinviews : (d : Typ) (n k : ℕ) (qs : List Place) → VarBinViews.plan d n k ≡ Some qs → length qs ≡ k
varbinviews (node (K.utf8 m) end) n k qs e = before_as_many [] n k qs e
varbinviews (node (K.binary m) end) n k qs e = before_as_many [] n k qs e
varbinviews _ n k qs e = absurd (cc)

fixed_size_lists : (d : Typ) (n k : ℕ) (qs : List Place) → FixedSizeLists.plan d n k ≡ Some qs → length qs ≡ k
fixed_size_lists (node (K.fixed_size_list s m) (more x end)) n k qs e = before_as_many (place x (n * s) ∷ []) n k qs (let_through (is_len (n * s)) _ _ e)
fixed_size_lists _ n k qs e = absurd (cc)

structs : (d : Typ) (n k : ℕ) (qs : List Place) → Structs.plan d n k ≡ Some qs → length qs ≡ k
structs (node (K.structure ns m) ts) n k qs e = after_as_many (places_at ts n) n k qs e
structs _ n k qs e = absurd (cc)

exts : (d : Typ) (n k : ℕ) (qs : List Place) → Exts.plan d n k ≡ Some qs → length qs ≡ k
exts (node (K.extension x bs) (more e end)) n k qs h = exactly_as_many (place e n ∷ []) k qs h
exts _ n k qs h = absurd (cc)

lists : (d : Typ) (n : ℕ) (v : Lists.Metadata) (k : ℕ) (qs : List Place) → Lists.plan d n v k ≡ Some qs → length qs ≡ k
lists (node (K.list m) (more e end)) n v k qs h = before_as_many (place e v.elements_len ∷ place (numbers v.offset_ptype) (suc n) ∷ []) n k qs (let_through (is_len (suc n)) _ _ h)
lists _ n v k qs h = absurd (cc)

list_views : (d : Typ) (n : ℕ) (v : ListViews.Metadata) (k : ℕ) (qs : List Place) → ListViews.plan d n v k ≡ Some qs → length qs ≡ k
list_views (node (K.list m) (more e end)) n v k qs h = before_as_many (place e v.elements_len ∷ place (numbers v.offset_ptype) n ∷ place (numbers v.size_ptype) n ∷ []) n k qs h
list_views _ n v k qs h = absurd (cc)

maps : (d : Typ) (n k : ℕ) (qs : List Place) → Maps.plan d n k ≡ Some qs → length qs ≡ k
maps (node (K.map b m) (more x (more y end))) n k qs h = exactly_as_many (place (node (K.list m) (more (entries (record { key = x; value = y; keys_sorted = b })) end)) n ∷ []) k qs h
maps _ n k qs h = absurd (cc)

unions : (d : Typ) (n k : ℕ) (qs : List Place) → Unions.plan d n k ≡ Some qs → length qs ≡ k
unions (node (K.union ns ids m) ts) n k qs h = exactly_as_many (place (node (K.primitive U8 m) end) n ∷ places_at ts n) k qs h
unions _ n k qs h = absurd (cc)

variants : (d : Typ) (n : ℕ) (v : Variants.Metadata) (k : ℕ) (qs : List Place) → Variants.plan d n v k ≡ Some qs → length qs ≡ k
variants (node (K.variant m) end) n None k qs h = exactly_as_many (place (node (K.variant m) end) n ∷ []) k qs h
variants (node (K.variant m) end) n (Some e) k qs h = exactly_as_many (place (node (K.variant m) end) n ∷ place e n ∷ []) k qs h
variants _ n v k qs h = absurd (cc)

dicts : (d : Typ) (n : ℕ) (v : Dicts.Metadata) (k : ℕ) (qs : List Place) → Dicts.plan d n v k ≡ Some qs → length qs ≡ k
dicts d n v k qs h = exactly_as_many (place (node (K.primitive v.codes_ptype v.nullable_codes) end) n ∷ place d v.values_len ∷ []) k qs h

foreigns : (d : Typ) (n k : ℕ) (qs : List Place) → Some (replicate k (place d n)) ≡ Some qs → length qs ≡ k
foreigns d n k qs h = ap (λ (rs : List Place). length rs) (sym (same_Some (replicate k (place d n)) qs h)) ∙ length-replicate k (place d n)

-- What is planned is one place for each child.
pub planned_count : (e : Encoding) (d : Typ) (n : ℕ) (v : Metadata) (k : ℕ) (qs : List Place) → plan_of e d n v k ≡ Some qs → length qs ≡ k
planned_count E.null d n M.empty k qs p = nulls d n k qs p
planned_count E.bool d n (M.bool v) k qs p = bools d n k qs p
planned_count E.primitive d n M.empty k qs p = primitives d n k qs p
planned_count E.decimal d n (M.decimal v) k qs p = decimals d n k qs p
planned_count E.varbin d n (M.varbin v) k qs p = varbins d n v k qs p
planned_count E.varbinview d n M.empty k qs p = varbinviews d n k qs p
planned_count E.list d n (M.list v) k qs p = lists d n v k qs p
planned_count E.listview d n (M.listview v) k qs p = list_views d n v k qs p
planned_count E.fixed_size_list d n M.empty k qs p = fixed_size_lists d n k qs p
planned_count E.map d n M.empty k qs p = maps d n k qs p
planned_count E.struct d n M.empty k qs p = structs d n k qs p
planned_count E.union d n M.empty k qs p = unions d n k qs p
planned_count E.variant d n (M.variant v) k qs p = variants d n v k qs p
planned_count E.ext d n M.empty k qs p = exts d n k qs p
planned_count E.dict d n (M.dict v) k qs p = dicts d n v k qs p
planned_count E.foreign d n (M.foreign v) k qs p = foreigns d n k qs p
planned_count _ d n v k qs p = absurd (cc)
