-- Validity agrees with values, in every tree: a null row has the value null, a valid one another, and one of unknown
-- validity is opaque.
use Rattle.std.proofs.Common.{ℕ, ◌≡◌, List, [], ◌∷◌, Option, Some, None, Bool, true, false, refl, sym, subst, if◌then◌else◌, unwrap_or}
use Rattle.vx_trees.specs.Rose.{Roses, node, end, more}
use Rattle.vx_types.specs.Kind as K
use Rattle.vx_types.specs.Kind.{Kind}
use Rattle.vx_types.specs.Typ.{Typ}
use Rattle.vx_types.specs.Value.{Value, Values, null, opaque, tuple, lone, has_opaque, is_null}
use Rattle.vx_array_tree.specs.Body.{Body}
use Rattle.vx_array_tree.specs.Body as B
use Rattle.vx_array_tree.specs.Encodings.Dicts as Dicts
use Rattle.vx_array_tree.specs.Encodings.Variants as Variants
use Rattle.vx_array_tree.specs.Encodings.Variants.{valid_over, row_over, merged_over, is_structure}
use Rattle.vx_array_tree.specs.Encodings.VarBinViews as VarBinViews
use Rattle.vx_array_tree.specs.Encodings.VarBins as VarBins
use Rattle.vx_array_tree.specs.Encodings.VarBins.{mark_of}
use Rattle.vx_array_tree.specs.Merge.{Raw, wrapped, over, merged_fields, fallback_structure, merge}
use Rattle.vx_array_tree.specs.Place.{Place}
use Rattle.vx_array_tree.specs.Rows.{Rows, first, rest, second, index_at, validity, where_valid}
use Rattle.vx_array_tree.specs.Table.{node_rows}
use Rattle.vx_array_tree.specs.Tree.{Tree, Trees, places, rows_of, rows_below}

-- What a row's value is, by whether the row is valid.
abbrev pub AgreesAt : Option Bool → Value → Type 0
AgreesAt None v = v ≡ lone opaque
AgreesAt (Some false) v = v ≡ lone null
AgreesAt (Some true) v = is_null v ≡ false

abbrev pub Agree : Rows → Type 0
Agree r = (i : ℕ) → AgreesAt (r.valid i) (r.row i)

abbrev AllAgree : List Rows → Type 0
AllAgree [] = Unit {0}
AllAgree (r ∷ rs) = Agree r × AllAgree rs

never : true ≡ false → ⊥
never e = cc

-- ---- after a validity

agrees_where : (o : Option Bool) (value : ℕ → Value) (i : ℕ) → is_null (value i) ≡ false → AgreesAt o (where_valid o value i)
agrees_where None value i h = refl
agrees_where (Some false) value i h = refl
agrees_where (Some true) value i h = h

mark_stands : (d : Typ) (bs : List ℕ) → is_null (lone (mark_of d bs)) ≡ false
mark_stands (node (K.utf8 m) ts) bs = refl
mark_stands _ bs = refl

-- ---- merged values

wrapped_stands : (d : Typ) (v : Value) → is_null v ≡ false → is_null (wrapped d v) ≡ false
wrapped_stands (node (K.variant m) ts) (node null vs) h = absurd (never h)
wrapped_stands (node (K.variant m) ts) v h = h
wrapped_stands d v h = refl

over_stands : (d : Typ) (raw : Option Raw) (vs : Values) (fields : List (List ℕ) → Roses Kind → Raw → List (List ℕ × Option Value)) → is_null (over d raw (node tuple vs) fields) ≡ false
over_stands (node (K.structure ns m) ts) (Some raw) vs fields = refl
over_stands d raw vs fields = wrapped_stands d (node tuple vs) refl

merge_stands : (d : Typ) (v : Value) (fallback : Option Value) → is_null v ≡ false → is_null (merge d v fallback) ≡ false
merge_stands d (node null vs) fallback h = absurd (never h)
merge_stands (node (K.list m) (more e end)) (node tuple vs) fallback h = refl
merge_stands (node (K.fixed_size_list s m) (more e end)) (node tuple vs) fallback h = refl
merge_stands d (node tuple vs) fallback h = over_stands d (fallback_structure fallback) vs (λ ns ts r. merged_fields vs ns ts r)
merge_stands d v fallback h = wrapped_stands d v h

tested : (b : Bool) (v : Value) → is_null v ≡ false → is_null (if b then lone opaque else v) ≡ false
tested true v h = refl
tested false v h = h

merged_stands : (d : Typ) (v c : Value) → is_null v ≡ false → is_null (merged_over d v c) ≡ false
merged_stands d v (node opaque vs) h = tested (is_structure d) (merge d v None) (merge_stands d v None h)
merged_stands d v c h = merge_stands d v (Some c) h

shredded_stands : (d : Typ) (v c : Value) → is_null v ≡ false → is_null (row_over d v c) ≡ false
shredded_stands d (node null vs) c h = absurd (never h)
shredded_stands d v c h = tested (has_opaque v) (merged_over d v c) (merged_stands d v c h)

over_agrees : (a b : Option Bool) (d : Typ) (v c : Value) → AgreesAt a v → AgreesAt b c → AgreesAt (valid_over a b) (row_over d v c)
over_agrees None b d v c p q = subst (λ (z : Value). row_over d z c ≡ lone opaque) (sym p) refl
over_agrees (Some false) b d v c p q = subst (λ (z : Value). AgreesAt b (row_over d z c)) (sym p) q
over_agrees (Some true) b d v c p q = shredded_stands d v c p

-- ---- nodes

first_agrees : (rs : List Rows) → AllAgree rs → Agree (first rs)
first_agrees [] a = λ i. refl
first_agrees (r ∷ rs) a = a.0

second_agrees : (rs : List Rows) → AllAgree rs → Agree (second rs)
second_agrees [] a = λ i. refl
second_agrees (r ∷ rs) a = first_agrees rs a.1

variants_agree : (n : ℕ) (v : Variants.Metadata) (rs : List Rows) → AllAgree rs → Agree (Variants.rows n v rs)
variants_agree n (Some e) (c ∷ s ∷ rs) a = λ i. over_agrees (s.valid i) (c.valid i) e (s.row i) (c.row i) (a.1.0 i) (a.0 i)
variants_agree n v rs a = first_agrees rs a

codes_agree : (o : Option Bool) (r : Rows) (index : ℕ → ℕ) (i : ℕ) → Agree r → AgreesAt (Dicts.valid_by o r.valid (index i)) (where_valid o (λ j. r.row (index j)) i)
codes_agree None r index i a = refl
codes_agree (Some false) r index i a = refl
codes_agree (Some true) r index i a = a (index i)

node_agrees : (d : Typ) (n : ℕ) (b : Body) (ps : List Place) (rs : List Rows) → AllAgree rs → Agree (node_rows d n b ps rs)
node_agrees d n B.null ps rs a = λ i. refl
node_agrees d n (B.varbin x) ps rs a = λ i. agrees_where (validity (rest rs) i) (λ j. lone (mark_of d (VarBins.bytes_at x.bytes.bytes (first rs) j))) i (mark_stands d _)
node_agrees d n (B.varbinview x) ps rs a = λ i. agrees_where (validity rs i) (λ j. lone (mark_of d (unwrap_or (VarBinViews.bytes_at x j) []))) i (mark_stands d _)
node_agrees d n B.map ps rs a = first_agrees rs a
node_agrees d n B.ext ps rs a = first_agrees rs a
node_agrees d n B.variant ps rs a = variants_agree n (Variants.metadata_of ps) rs a
node_agrees d n (B.dict x) ps rs a = λ i. codes_agree ((first rs).valid i) (second rs) (λ j. index_at (first rs) j) i (second_agrees rs a)
node_agrees d n (B.foreign x) ps rs a = λ i. refl
node_agrees d n _ ps rs a = λ i. agrees_where _ _ i refl

mutual
  pub rows_agree : (t : Tree) → Agree (rows_of t)
  rows_agree (node h ts) = node_agrees h.dtype h.len h.body (places ts) (rows_below ts) (all_agree ts)

  all_agree : (ts : Trees) → AllAgree (rows_below ts)
  all_agree end = tt
  all_agree (more t ts) = (rows_agree t, all_agree ts)
