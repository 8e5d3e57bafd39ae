-- A node under another nullability: its rows, and what its parts are to be.
use Rattle.std.proofs.Common.{ℕ, suc, ◌≡◌, List, [], refl, sym, ap, ◌∙◌, subst, length, is_some, IsTrue, ◌*◌, ◌==◌, ◌&&◌, if◌then◌else◌, unwrap_or}
use Rattle.vx_trees.specs.Rose.{Roses, node, end, more, count}
use Rattle.vx_types.specs.Kind as K
use Rattle.vx_types.specs.Kind.{Kind}
use Rattle.vx_types.specs.Typ.{Typ}
use Rattle.vx_numbers.specs.Numbers.{width_of}
use Rattle.vx_types.specs.Words.{with_nullability, with_first_nullability}
use Rattle.vx_types.specs.declared.nullability.Nullability.{Nullability}
use Rattle.vx_array_tree.specs.Body.{Body}
use Rattle.vx_array_tree.specs.Body as B
use Rattle.vx_array_tree.specs.Bytes.{primitive_at}
use Rattle.vx_array_tree.specs.Encoding.{Encoding}
use Rattle.vx_array_tree.specs.Encoding as E
use Rattle.vx_array_tree.specs.Encodings.Primitives as Primitives
use Rattle.vx_array_tree.specs.Encodings.VarBins as VarBins
use Rattle.vx_array_tree.specs.Encodings.VarBinViews as VarBinViews
use Rattle.vx_array_tree.specs.Encodings.FixedSizeLists as FixedSizeLists
use Rattle.vx_array_tree.specs.Encodings.Structs as Structs
use Rattle.vx_array_tree.specs.Encodings.Unions as Unions
use Rattle.vx_array_tree.specs.Encodings.Variants as Variants
use Rattle.vx_array_tree.specs.Metadata.{Metadata}
use Rattle.vx_array_tree.specs.Metadata as M
use Rattle.vx_array_tree.specs.Place.{Place, AllowsValidity, ptype_of}
use Rattle.vx_array_tree.specs.Rows.{Rows, by_validity, by_validity_with, validity, first, rest, index_at, values_from, cells_from, values_at, cells_at}
use Rattle.vx_array_tree.specs.Table.{metadata_of, node_rows, Holds, Content, Allows, is_control, cleared}
use Rattle.vx_types.specs.Value.{lone, number, tuple, union}
use Rattle.vx_array_tree.proofs.Retyped.{IsRetyped, retyped_nullable}

-- ---- what is read off a type does not go by its nullability

same_ptype : (m : Nullability) (d : Typ) → ptype_of (with_nullability m d) ≡ ptype_of d
same_ptype m (node K.null ts) = refl
same_ptype m _ = refl

same_mark : (m : Nullability) (d : Typ) (ys : List ℕ) → VarBins.mark_of (with_nullability m d) ys ≡ VarBins.mark_of d ys
same_mark m (node K.null ts) ys = refl
same_mark m _ ys = refl

content_text : (m : Nullability) (d : Typ) (ys : List ℕ) → VarBins.IsContent d ys → VarBins.IsContent (with_nullability m d) ys
content_text m (node K.null ts) ys h = h
content_text m _ ys h = h

same_size : (m : Nullability) (d : Typ) → FixedSizeLists.size_of (with_nullability m d) ≡ FixedSizeLists.size_of d
same_size m (node K.null ts) = refl
same_size m _ = refl

same_tags : (m : Nullability) (d : Typ) → Unions.tags_of (with_nullability m d) ≡ Unions.tags_of d
same_tags m (node K.null ts) = refl
same_tags m _ = refl

first_count : (m : Nullability) (ts : Roses Kind) → count (with_first_nullability m ts) ≡ count ts
first_count m end = refl
first_count m (more t ts) = refl

same_width : (m : Nullability) (d : Typ) → Structs.width_of (with_nullability m d) ≡ Structs.width_of d
same_width m (node (K.extension id bs) ts) = first_count m ts
same_width m _ = refl

-- ---- a node's rows

variant_inj : (v w : Variants.Metadata) → M.variant v ≡ M.variant w → v ≡ w
variant_inj v w e = cc

-- The rows of structs by the number of their fields, and of unions by their tags.
abbrev struct_rows : ℕ → ℕ → List Rows → Rows
struct_rows n w rs =
    by_validity_with n (Structs.structure_valid (length rs == suc w) rs)
    (λ j. node tuple (values_at (if length rs == suc w then rest rs else rs) j))
    (λ j. suc (cells_at (if length rs == suc w then rest rs else rs) j))

abbrev union_rows : ℕ → List ℕ → List Rows → Rows
union_rows n ids rs =
    by_validity_with n (first rs).valid
    (λ j. node (union (index_at (first rs) j)) (more ((Unions.rows_or_none (Unions.member_rows (index_at (first rs) j) ids (rest rs))).row j) end))
    (λ j. suc ((Unions.rows_or_none (Unions.member_rows (index_at (first rs) j) ids (rest rs))).cells j))

-- The rows of a node are those of one of another nullability, over children of equal rows; a variant's also
-- of equal metadata.
pub rows_retyped : (b : Body) (m : Nullability) (d : Typ) (n : ℕ) (ps qs : List Place) (rs : List Rows) → metadata_of (cleared b) qs ≡ metadata_of b ps
    → node_rows (with_nullability m d) n (cleared b) qs rs ≡ node_rows d n b ps rs
rows_retyped (B.primitive x) m d n ps qs rs e = λ i. by_validity n (validity rs) (λ j. lone (number (primitive_at (same_ptype m d i) x.values.bytes j)))
rows_retyped (B.varbin x) m d n ps qs rs e = λ i. by_validity n (validity (rest rs)) (λ j. lone (same_mark m d (VarBins.bytes_at x.bytes.bytes (first rs) j) i))
rows_retyped (B.varbinview x) m d n ps qs rs e = λ i. by_validity n (validity rs) (λ j. lone (same_mark m d (unwrap_or (VarBinViews.bytes_at x j) []) i))
rows_retyped B.fixed_size_list m d n ps qs rs e = λ i. by_validity_with n (validity (rest rs)) (λ j. node tuple (values_from (first rs) (j * same_size m d i) (same_size m d i))) (λ j. suc (cells_from (first rs) (j * same_size m d i) (same_size m d i)))
rows_retyped B.struct m d n ps qs rs e = λ i. struct_rows n (same_width m d i) rs
rows_retyped B.union m d n ps qs rs e = λ i. union_rows n (same_tags m d i) rs
rows_retyped B.variant m d n ps qs rs e = ap (λ v. Variants.rows n v rs) (variant_inj (Variants.metadata_of qs) (Variants.metadata_of ps) e)
rows_retyped _ m d n ps qs rs e = refl

-- ---- what its parts are to be

pub holds_retyped : (b : Body) (m : Nullability) (d : Typ) (n : ℕ) → Holds d n b → Holds (with_nullability m d) n (cleared b)
holds_retyped (B.primitive x) m d n h = subst (λ p. Primitives.IsFilled (width_of p) n x.values) (sym (same_ptype m d)) h
holds_retyped _ m d n h = h

pub content_retyped : (b : Body) (m : Nullability) (d : Typ) (n : ℕ) (rs : List Rows) → Content d n b rs → Content (with_nullability m d) n (cleared b) rs
content_retyped (B.varbin x) m d n rs h = record { offsets = h.offsets; texts = λ i l t. content_text m d (VarBins.bytes_at x.bytes.bytes (first rs) i) (h.texts i l t) }
content_retyped (B.varbinview x) m d n rs h = λ i l t. let y = h i l t in (y.0, y.1, content_text m d y.0 y.2)
content_retyped B.union m d n rs h = λ i l t. let y = h i l t in record { tag = y.tag; named = subst (λ ids. IsTrue (is_some (Unions.member_rows (index_at (first rs) i) ids (rest rs)))) (sym (same_tags m d)) y.named }
content_retyped _ m d n rs h = h

validity_retyped : (d f : Typ) (m k : ℕ) → IsRetyped d f → AllowsValidity d m k → AllowsValidity f m k
validity_retyped d f m k r a = λ q. retyped_nullable d f r (a q)

-- What may stand under a type may stand under it with nullability that was brought.
pub allows_retyped : (e : Encoding) (d f : Typ) (v : Metadata) (k : ℕ) → IsRetyped d f → Allows e d v k → Allows e f v k
allows_retyped E.bool d f v k r a = validity_retyped d f 0 k r a
allows_retyped E.primitive d f v k r a = validity_retyped d f 0 k r a
allows_retyped E.decimal d f v k r a = validity_retyped d f 0 k r a
allows_retyped E.varbin d f v k r a = validity_retyped d f 1 k r a
allows_retyped E.varbinview d f v k r a = validity_retyped d f 0 k r a
allows_retyped E.list d f v k r a = validity_retyped d f 2 k r a
allows_retyped E.listview d f v k r a = validity_retyped d f 3 k r a
allows_retyped E.fixed_size_list d f v k r a = validity_retyped d f 1 k r a
allows_retyped E.struct d f v k r a =
    let w : Structs.width_of f ≡ Structs.width_of d = ap (λ z. Structs.width_of z) (sym r.retyped) ∙ same_width r.nullability_is d in
    subst (λ m. AllowsValidity f m k) (sym w) (validity_retyped d f (Structs.width_of d) k r a)
allows_retyped E.dict d f (M.dict v) k r a = λ q. retyped_nullable d f r (a q)
allows_retyped _ d f v k r a = tt

-- A type's nullability tells nothing of which children are control children.
pub same_control : (e : Encoding) (d f : Typ) (k i : ℕ) → IsRetyped d f → is_control e f k i ≡ is_control e d k i
same_control E.struct d f k i r =
    let w : Structs.width_of f ≡ Structs.width_of d = ap (λ z. Structs.width_of z) (sym r.retyped) ∙ same_width r.nullability_is d in
    ap (λ m. (k == suc m) && (i == 0)) w
same_control _ d f k i r = refl
