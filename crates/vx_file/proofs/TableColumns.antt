-- The columns of a sound table are of the types of its fields, and have as many rows.
use Rattle.std.proofs.Common.{ℕ, zero, suc, ◌≡◌, List, [], ◌∷◌, Option, Some, None, length, refl, sym, ap, ◌∙◌, subst}
use Rattle.std.specs.Prelude.{option_map}
use Rattle.vx_trees.specs.Rose.{Roses, node, end, more, label, roses_of, roses_list, count}
use Rattle.vx_types.specs.Kind.{Kind, null, boolean, primitive, decimal, utf8, binary, list, fixed_size_list, structure, union, map as map_kind, variant, extension}
use Rattle.vx_types.specs.Typ.{Typ}
use Rattle.vx_types.specs.Words.{nullability}
use Rattle.vx_types.specs.declared.nullability.Nullability.TheVariants.{NonNullable, Nullable}
use Rattle.vx_array_tree.specs.Body.{Body}
use Rattle.vx_array_tree.specs.Body as B
use Rattle.vx_array_tree.specs.Encodings.Structs as Structs
use Rattle.vx_array_tree.specs.Place.{Place, place, exactly, after_validity, validity_place, places_at}
use Rattle.vx_array_tree.specs.Sound.{IsSound}
use Rattle.vx_array_tree.specs.Table.{encoding_of, metadata_of, plan_of, lifted, Allows}
use Rattle.vx_array_tree.specs.Tree.{Tree, Trees, Head, places}
use Rattle.vx_file.specs.Shows.{field_types}

-- Each of some arrays is of the type in its place, and has so many rows.
abbrev pub AreColumns : ℕ → List Typ → List Tree → Type 0
AreColumns n [] [] = Unit {0}
AreColumns n (d ∷ ds) (t ∷ ts) = ((label t).dtype ≡ d) × ((label t).len ≡ n) × AreColumns n ds ts
AreColumns n _ _ = ⊥

-- ---- fields

-- A type is a structure's of which no row is null.
pub record HasFields (d : Typ) : Type 0 where
  pub fields : List Typ
  pub fields_are : field_types d ≡ Some fields

fields_by : (d : Typ) (n k : ℕ) (qs : List Place) → Structs.plan d n k ≡ Some qs → nullability d ≡ NonNullable → HasFields d
fields_by (node (structure ns NonNullable) fs) n k qs e plain = record { fields = roses_list fs; fields_are = refl }
fields_by (node (structure ns Nullable) fs) n k qs e plain = absurd (cc)
fields_by (node null fs) n k qs e plain = absurd (cc)
fields_by (node (boolean m) fs) n k qs e plain = absurd (cc)
fields_by (node (primitive p m) fs) n k qs e plain = absurd (cc)
fields_by (node (decimal p s m) fs) n k qs e plain = absurd (cc)
fields_by (node (utf8 m) fs) n k qs e plain = absurd (cc)
fields_by (node (binary m) fs) n k qs e plain = absurd (cc)
fields_by (node (list m) fs) n k qs e plain = absurd (cc)
fields_by (node (fixed_size_list j m) fs) n k qs e plain = absurd (cc)
fields_by (node (union ns ids m) fs) n k qs e plain = absurd (cc)
fields_by (node (map_kind b m) fs) n k qs e plain = absurd (cc)
fields_by (node (variant m) fs) n k qs e plain = absurd (cc)
fields_by (node (extension id bs) fs) n k qs e plain = absurd (cc)

-- ---- plans

record IsExactly (ps : List Place) (k : ℕ) (qs : List Place) : Type 0 where
  same : qs ≡ ps
  count : k ≡ length ps

some_same : {A : Type 0} (x y : A) → ◌≡◌ {A = Option A} (Some x) (Some y) → x ≡ y
some_same x y e = cc

mapped : (p : Place) (o : Option (List Place)) (qs : List Place) (ps : List Place) (k : ℕ) → option_map (λ rs. p ∷ rs) o ≡ Some qs → ((rs : List Place) → o ≡ Some rs → IsExactly ps k rs) → IsExactly (p ∷ ps) (suc k) qs
mapped p None qs ps k e next = absurd (cc)
mapped p (Some rs) qs ps k e next =
    let is = next rs refl in
    record { same = sym (some_same (p ∷ rs) qs e) ∙ ap (λ z. p ∷ z) is.same; count = ap suc is.count }

exactly_is : (ps : List Place) (k : ℕ) (qs : List Place) → exactly ps k ≡ Some qs → IsExactly ps k qs
exactly_is [] zero qs e = record { same = sym (some_same [] qs e); count = refl }
exactly_is [] (suc k) qs e = absurd (cc)
exactly_is (p ∷ ps) zero qs e = absurd (cc)
exactly_is (p ∷ ps) (suc k) qs e = mapped p (exactly ps k) qs ps k e (λ rs h. exactly_is ps k rs h)

behind_of : (ps : List Place) (n k : ℕ) (qs : List Place) (o : Option (List Place)) → exactly ps k ≡ o → elim o [ Some rs ↦ Some rs | None ↦ exactly (validity_place n ∷ ps) k ] ≡ Some qs → (k ≡ suc (length ps) → ⊥) → qs ≡ ps
behind_of ps n k qs None x e h = absurd (h (exactly_is (validity_place n ∷ ps) k qs e).count)
behind_of ps n k qs (Some rs) x e h = sym (some_same rs qs e) ∙ (exactly_is ps k rs x).same

behind_is : (ps : List Place) (n k : ℕ) (qs : List Place) → after_validity ps n k ≡ Some qs → (k ≡ suc (length ps) → ⊥) → qs ≡ ps
behind_is ps n k qs e h = behind_of ps n k qs (exactly ps k) refl e h

width : (fs : Roses Kind) (n : ℕ) → length (places_at fs n) ≡ count fs
width end n = refl
width (more d ds) n = ap suc (width ds n)

-- ---- columns

columns_at : (ts : List Tree) (fs : Roses Kind) (n : ℕ) → places (roses_of ts) ≡ places_at fs n → AreColumns n (roses_list fs) ts
columns_at [] end n e = tt
columns_at [] (more d ds) n e = absurd (cc)
columns_at (t ∷ ts) end n e = absurd (cc)
columns_at (t ∷ ts) (more d ds) n e =
    let first : place (label t).dtype (label t).len ≡ place d n = heads (place (label t).dtype (label t).len) (place d n) (places (roses_of ts)) (places_at ds n) e in
    let rest : places (roses_of ts) ≡ places_at ds n = tails (place (label t).dtype (label t).len) (place d n) (places (roses_of ts)) (places_at ds n) e in
    (ap (λ (p : Place). p.dtype) first, ap (λ (p : Place). p.len) first, columns_at ts ds n rest)
  where
    heads : (p q : Place) (ps qs : List Place) → p ∷ ps ≡ q ∷ qs → p ≡ q
    heads p q ps qs e = cc

    tails : (p q : Place) (ps qs : List Place) → p ∷ ps ≡ q ∷ qs → ps ≡ qs
    tails p q ps qs e = cc

not_null : NonNullable ≡ Nullable → ⊥
not_null e = cc

planned_struct : (ns : List (List ℕ)) (fs : Roses Kind) (n k : ℕ) (qs : List Place) → Structs.plan (node (structure ns NonNullable) fs) n k ≡ Some qs → Structs.Allows (node (structure ns NonNullable) fs) k → qs ≡ places_at fs n
planned_struct ns fs n k qs e allows = behind_is (places_at fs n) n k qs e (λ c. not_null (allows (c ∙ ap suc (width fs n))))

columns_by : (d : Typ) (n : ℕ) (ts : List Tree) (fields : List Typ) → field_types d ≡ Some fields → Structs.plan d n (count (roses_of ts)) ≡ Some (places (roses_of ts)) → Structs.Allows d (count (roses_of ts)) → AreColumns n fields ts
columns_by (node (structure ns NonNullable) fs) n ts fields e plan allows =
    subst (λ ds. AreColumns n ds ts) (some_same (roses_list fs) fields e) (columns_at ts fs n (planned_struct ns fs n (count (roses_of ts)) (places (roses_of ts)) plan allows))
columns_by (node (structure ns Nullable) fs) n ts fields e plan allows = absurd (cc)
columns_by (node null fs) n ts fields e plan allows = absurd (cc)
columns_by (node (boolean m) fs) n ts fields e plan allows = absurd (cc)
columns_by (node (primitive p m) fs) n ts fields e plan allows = absurd (cc)
columns_by (node (decimal p s m) fs) n ts fields e plan allows = absurd (cc)
columns_by (node (utf8 m) fs) n ts fields e plan allows = absurd (cc)
columns_by (node (binary m) fs) n ts fields e plan allows = absurd (cc)
columns_by (node (list m) fs) n ts fields e plan allows = absurd (cc)
columns_by (node (fixed_size_list k m) fs) n ts fields e plan allows = absurd (cc)
columns_by (node (union ns ids m) fs) n ts fields e plan allows = absurd (cc)
columns_by (node (map_kind b m) fs) n ts fields e plan allows = absurd (cc)
columns_by (node (variant m) fs) n ts fields e plan allows = absurd (cc)
columns_by (node (extension id bs) fs) n ts fields e plan allows = absurd (cc)

-- The columns of a sound table without nulls are of its fields' types, and have its rows.
pub table_columns : (h : Head) (ts : List Tree) (fields : List Typ) → h.body ≡ B.struct → field_types h.dtype ≡ Some fields → IsSound (node h (roses_of ts)) → AreColumns h.len fields ts
table_columns h ts fields e is sound =
    let P : Body → Type 0 = λ b. plan_of (encoding_of b) h.dtype h.len (metadata_of b (places (roses_of ts))) (count (roses_of ts)) ≡ Some (lifted h.dtype h.len b (places (roses_of ts))) in
    let Q : Body → Type 0 = λ b. Allows (encoding_of b) h.dtype (metadata_of b (places (roses_of ts))) (count (roses_of ts)) in
    columns_by h.dtype h.len ts fields is (subst P e sound.0.planned) (subst Q e sound.0.allows)

-- The type of a sound table without nulls has fields.
pub table_fields : (h : Head) (ts : Trees) → h.body ≡ B.struct → nullability h.dtype ≡ NonNullable → IsSound (node h ts) → HasFields h.dtype
table_fields h ts e plain sound =
    let P : Body → Type 0 = λ b. plan_of (encoding_of b) h.dtype h.len (metadata_of b (places ts)) (count ts) ≡ Some (lifted h.dtype h.len b (places ts)) in
    fields_by h.dtype h.len (count ts) (places ts) (subst P e sound.0.planned) plain
