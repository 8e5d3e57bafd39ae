-- Plans of children.
use Rattle.std.proofs.Common.{ℕ, zero, suc, ◌≡◌, List, [], ◌∷◌, Some, None, refl, sym, ap, ◌∙◌}
use Rattle.std.proofs.lemmas.Option.{same_Some}
use Rattle.vx_buffer.specs.Buffer.{Buffer}
use Rattle.vx_trees.specs.Rose.{node, end, more}
use Rattle.vx_types.specs.Kind as K
use Rattle.vx_types.specs.Kind.{Kind}
use Rattle.vx_types.specs.Typ.{Typ}
use Rattle.vx_array_tree.specs.Body.{Body}
use Rattle.vx_array_tree.specs.Body as B
use Rattle.vx_array_tree.specs.Encoding.{Encoding}
use Rattle.vx_array_tree.specs.Encoding as E
use Rattle.vx_array_tree.specs.Encodings.Bools as Bools
use Rattle.vx_array_tree.specs.Encodings.Decimals as Decimals
use Rattle.vx_array_tree.specs.Encodings.VarBins as VarBins
use Rattle.vx_array_tree.specs.Encodings.Lists as Lists
use Rattle.vx_array_tree.specs.Encodings.ListViews as ListViews
use Rattle.vx_array_tree.specs.Encodings.Variants as Variants
use Rattle.vx_array_tree.specs.Encodings.Dicts as Dicts
use Rattle.vx_array_tree.specs.Encodings.Foreigns as Foreigns
use Rattle.vx_array_tree.specs.Metadata.{Metadata}
use Rattle.vx_array_tree.specs.Metadata as M
use Rattle.vx_array_tree.specs.Place.{Place, place, numbers, exactly, before_validity, is_len}
use Rattle.vx_array_tree.specs.Table.{metadata_of, body_of, bufferless, plan_of}
use Rattle.vx_array_tree.proofs.Options.{mapped, let_through}

-- ---- what a plan holds

pub exactly_is : (ps : List Place) (k : ℕ) (qs : List Place) → exactly ps k ≡ Some qs → qs ≡ ps
exactly_is [] zero qs e = let q : qs ≡ [] = cc in q
exactly_is [] (suc k) qs e = absurd (cc)
exactly_is (p ∷ ps) zero qs e = absurd (cc)
exactly_is (p ∷ ps) (suc k) qs e =
    let m = mapped (λ (rs : List Place). p ∷ rs) (exactly ps k) qs e in
    m.1 ∙ ap (λ rs. p ∷ rs) (exactly_is ps k m.0 m.2)

-- The first of the places, and how the others go on.
pub record Front (p : Place) (ps : List Place) (n : ℕ) (qs : List Place) : Type 0 where
  pub others : List Place
  pub some : ℕ
  pub is : qs ≡ p ∷ others
  pub rest : before_validity ps n some ≡ Some others

pub before_front : (p : Place) (ps : List Place) (n k : ℕ) (qs : List Place) → before_validity (p ∷ ps) n k ≡ Some qs → Front p ps n qs
before_front p ps n zero qs e = absurd (cc)
before_front p ps n (suc k) qs e =
    let m = mapped (λ (rs : List Place). p ∷ rs) (before_validity ps n k) qs e in
    record { others = m.0; some = k; is = m.1; rest = m.2 }

-- A body that has no buffers is built of none.
pub bufferless_is : (x : Body) (bs : List Buffer) (b : Body) → bufferless x bs ≡ Some b → b ≡ x
bufferless_is x [] b e = let q : b ≡ x = cc in q
bufferless_is x (c ∷ bs) b e = absurd (cc)

-- ---- metadata is given back by a body and a plan

bool_offset : (v : Bools.Metadata) (bs : List Buffer) (x : Bools.Data) → Bools.body_of v bs ≡ Some x → x.offset ≡ v
bool_offset v [] x e = absurd (cc)
bool_offset v (b ∷ []) x e = ap (λ (y : Bools.Data). y.offset) (sym (same_Some (record { bits = b; offset = v }) x e))
bool_offset v (b ∷ c ∷ bs) x e = absurd (cc)

decimal_width : (v : Decimals.Metadata) (bs : List Buffer) (x : Decimals.Data) → Decimals.body_of v bs ≡ Some x → x.values_type ≡ v
decimal_width v [] x e = absurd (cc)
decimal_width v (b ∷ []) x e = ap (λ (y : Decimals.Data). y.values_type) (sym (same_Some (record { values = b; values_type = v }) x e))
decimal_width v (b ∷ c ∷ bs) x e = absurd (cc)

varbin_planned : (n : ℕ) (v : VarBins.Metadata) (k : ℕ) (ps : List Place) → VarBins.planned n v k ≡ Some ps → VarBins.metadata_of ps ≡ v
varbin_planned n v k ps e =
    let f = before_front (place (numbers v) (suc n)) [] n k ps (let_through (is_len (suc n)) _ ps e) in
    ap (λ qs. VarBins.metadata_of qs) f.is

varbin_metadata : (d : Typ) (n : ℕ) (v : VarBins.Metadata) (k : ℕ) (ps : List Place) → VarBins.plan d n v k ≡ Some ps → VarBins.metadata_of ps ≡ v
varbin_metadata (node (K.utf8 m) end) n v k ps e = varbin_planned n v k ps e
varbin_metadata (node (K.binary m) end) n v k ps e = varbin_planned n v k ps e
varbin_metadata _ n v k ps e = absurd (cc)

list_metadata : (d : Typ) (n : ℕ) (v : Lists.Metadata) (k : ℕ) (ps : List Place) → Lists.plan d n v k ≡ Some ps → Lists.metadata_of ps ≡ v
list_metadata (node (K.list m) (more x end)) n v k ps e =
    let f = before_front (place x v.elements_len) (place (numbers v.offset_ptype) (suc n) ∷ []) n k ps (let_through (is_len (suc n)) _ ps e) in
    let g = before_front (place (numbers v.offset_ptype) (suc n)) [] n f.some f.others f.rest in
    ap (λ qs. Lists.metadata_of qs) (f.is ∙ ap (λ (qs : List Place). place x v.elements_len ∷ qs) g.is)
list_metadata _ n v k ps e = absurd (cc)

listview_metadata : (d : Typ) (n : ℕ) (v : ListViews.Metadata) (k : ℕ) (ps : List Place) → ListViews.plan d n v k ≡ Some ps → ListViews.metadata_of ps ≡ v
listview_metadata (node (K.list m) (more x end)) n v k ps e =
    let f = before_front (place x v.elements_len) (place (numbers v.offset_ptype) n ∷ place (numbers v.size_ptype) n ∷ []) n k ps e in
    let g = before_front (place (numbers v.offset_ptype) n) (place (numbers v.size_ptype) n ∷ []) n f.some f.others f.rest in
    let h = before_front (place (numbers v.size_ptype) n) [] n g.some g.others g.rest in
    ap (λ qs. ListViews.metadata_of qs) (f.is ∙ ap (λ (qs : List Place). place x v.elements_len ∷ qs) (g.is ∙ ap (λ (qs : List Place). place (numbers v.offset_ptype) n ∷ qs) h.is))
listview_metadata _ n v k ps e = absurd (cc)

variant_metadata : (d : Typ) (n : ℕ) (v : Variants.Metadata) (k : ℕ) (ps : List Place) → Variants.plan d n v k ≡ Some ps → Variants.metadata_of ps ≡ v
variant_metadata (node (K.variant m) end) n None k ps e = ap (λ qs. Variants.metadata_of qs) (exactly_is (place (node (K.variant m) end) n ∷ []) k ps e)
variant_metadata (node (K.variant m) end) n (Some x) k ps e = ap (λ qs. Variants.metadata_of qs) (exactly_is (place (node (K.variant m) end) n ∷ place x n ∷ []) k ps e)
variant_metadata _ n v k ps e = absurd (cc)

dict_metadata : (d : Typ) (n : ℕ) (v : Dicts.Metadata) (k : ℕ) (ps : List Place) → Dicts.plan d n v k ≡ Some ps → Dicts.metadata_of (Dicts.body_of v) ps ≡ v
dict_metadata d n v k ps e = ap (λ qs. Dicts.metadata_of (Dicts.body_of v) qs) (exactly_is (place (node (K.primitive v.codes_ptype v.nullable_codes) end) n ∷ place d v.values_len ∷ []) k ps e)

-- A node that is built by metadata over children as they are planned has this metadata.
pub metadata_again : (e : Encoding) (d : Typ) (n : ℕ) (v : Metadata) (k : ℕ) (bs : List Buffer) (b : Body) (ps : List Place)
    → body_of e v bs ≡ Some b → plan_of e d n v k ≡ Some ps → metadata_of b ps ≡ v
metadata_again E.null d n M.empty k bs b ps p q = rw (bufferless_is B.null bs b p) refl
metadata_again E.bool d n (M.bool v) k bs b ps p q = let m = mapped B.bool (Bools.body_of v bs) b p in rw (m.1) (ap (λ z. M.bool z) (bool_offset v bs m.0 m.2))
metadata_again E.primitive d n M.empty k bs b ps p q = let m = mapped B.primitive _ b p in rw (m.1) refl
metadata_again E.decimal d n (M.decimal v) k bs b ps p q = let m = mapped B.decimal (Decimals.body_of v bs) b p in rw (m.1) (ap (λ z. M.decimal z) (decimal_width v bs m.0 m.2))
metadata_again E.varbin d n (M.varbin v) k bs b ps p q = let m = mapped B.varbin _ b p in rw (m.1) (ap (λ z. M.varbin z) (varbin_metadata d n v k ps q))
metadata_again E.varbinview d n M.empty k bs b ps p q = let m = mapped B.varbinview _ b p in rw (m.1) refl
metadata_again E.list d n (M.list v) k bs b ps p q = rw (bufferless_is B.list bs b p) (ap (λ z. M.list z) (list_metadata d n v k ps q))
metadata_again E.listview d n (M.listview v) k bs b ps p q = rw (bufferless_is _ bs b p) (ap (λ z. M.listview z) (listview_metadata d n v k ps q))
metadata_again E.fixed_size_list d n M.empty k bs b ps p q = rw (bufferless_is B.fixed_size_list bs b p) refl
metadata_again E.map d n M.empty k bs b ps p q = rw (bufferless_is B.map bs b p) refl
metadata_again E.struct d n M.empty k bs b ps p q = rw (bufferless_is B.struct bs b p) refl
metadata_again E.union d n M.empty k bs b ps p q = rw (bufferless_is B.union bs b p) refl
metadata_again E.variant d n (M.variant v) k bs b ps p q = rw (bufferless_is B.variant bs b p) (ap (λ z. M.variant z) (variant_metadata d n v k ps q))
metadata_again E.ext d n M.empty k bs b ps p q = rw (bufferless_is B.ext bs b p) refl
metadata_again E.dict d n (M.dict v) k bs b ps p q = rw (bufferless_is (B.dict (Dicts.body_of v)) bs b p) (ap (λ z. M.dict z) (dict_metadata d n v k ps q))
metadata_again E.foreign d n (M.foreign v) k bs b ps p q = ap (λ z. metadata_of z ps) (sym (same_Some (B.foreign (Foreigns.body_of v bs)) b p))
metadata_again _ d n v k bs b ps p q = absurd (cc)
