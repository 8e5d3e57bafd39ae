-- The children of a struct node: a validity that may stand in front, and its columns; and its rows.
use Rattle.std.proofs.Common.{ℕ, suc, ◌≡◌, ◌≤◌, ◌<◌, ◌-◌, ◌==◌, List, [], ◌∷◌, Option, Some, Bool, true, false, refl, sym, ap, ◌∙◌, subst, inl, inr, length, take, drop, arith}
use Rattle.std.proofs.lemmas.Bool.{eq-eqb, ne_eqb}
use Rattle.std.proofs.lemmas.List.{take_all}
use Rattle.std.specs.Prelude.{◌↔◌, IsTrue, if◌then◌else◌}
use Rattle.vx_trees.specs.Rose.{Roses, node, end, more, label, below, count, roses_of}
use Rattle.vx_trees.specs.Walks.{nodes_of}
use Rattle.vx_trees.proofs.Lists.{count-roses_of}
use Rattle.vx_trees.proofs.LawsOfLists.{heads, tails}
use Rattle.vx_types.specs.Kind.{Kind, structure}
use Rattle.vx_types.specs.Parts.{Fields}
use Rattle.vx_types.specs.Typ.{Typ}
use Rattle.vx_types.specs.Value.{Value, tuple}
use Rattle.vx_types.specs.declared.nullability.Nullability.{Nullability}
use Rattle.vx_types.specs.declared.nullability.Nullability.TheVariants.{Nullable}
use Rattle.vx_array_tree.specs.Body as B
use Rattle.vx_array_tree.specs.Encodings.Structs.{plan, rows, fields, width_of, has_validity, structure_valid}
use Rattle.vx_array_tree.specs.Place.{Place, place, after_validity, validity_place, places_at}
use Rattle.vx_array_tree.specs.Refused.{IsWellShaped}
use Rattle.vx_types.specs.Value.{flag_in}
use Rattle.vx_array_tree.specs.Rows.{rest, where_valid, cells_where, values_at, cells_at}
use Rattle.vx_array_tree.specs.Sound.{IsSoundNode}
use Rattle.vx_array_tree.specs.Tree.{Tree, Trees, array_place, places, row_at, rows_below, untold}
use Rattle.vx_array_tree.proofs.LawsOfPlaces.{IsAfter, after_is, after_self, after_one, places_count, places_length, rows_count}
use Rattle.vx_arrays.specs.Parts.{HaveRow}
use Rattle.vx_arrays.specs.Structs.{IsOfFields, after_first, field_trees, struct_head}

-- ---- whether a validity stands in front

equal : (a b : ℕ) → a ≡ b → (a == b) ≡ true
equal a b e = eq-eqb a b e

unequal : (a b : ℕ) → (a ≡ b → ⊥) → (a == b) ≡ false
unequal a b f = ne_eqb a b f

-- ---- sound nodes

pub of_fields : (d : Typ) (n k : ℕ) (ps : List Place) → plan d n k ≡ Some ps → IsOfFields d × (after_validity (places_at (below d) n) n k ≡ Some ps)
of_fields (node (structure names m) ds) n k ps h = (tt, h)
of_fields _ n k ps h = absurd (cc)

width_is : (d : Typ) → width_of d ≡ count (below d)
width_is (node k ds) = refl

module _ (d : Typ) (n : ℕ) (ts : Trees) (s : IsSoundNode (untold d n B.struct) ts) where
  pub sound_fields : IsOfFields d
  sound_fields = (of_fields d n (count ts) (places ts) s.planned).0

  sound_after : IsAfter (places_at (below d) n) n (count ts) (places ts)
  sound_after = after_is (places_at (below d) n) n (count ts) (places ts) (of_fields d n (count ts) (places ts) s.planned).1

-- Columns, by whether a validity stands in front of them.
pub record HasColumns (d : Typ) (n : ℕ) (ts : Trees) : Type 0 where
  pub columns : places (field_trees d ts) ≡ places_at (below d) n

one_after : (t : Tree) (us : Trees) (p : Place) (ps : List Place) → places (more t us) ≡ p ∷ ps → (array_place t ≡ p) × (places us ≡ ps)
one_after t us p ps e = (heads _ _ _ _ e, tails _ _ _ _ e)

no_places : (p : Place) (ps : List Place) → [] ≡ p ∷ ps → ⊥
no_places p ps e = absurd (cc)

-- Where a validity stands in front, the columns are the others.
with_front : (d : Typ) (n : ℕ) (ts : Trees) → count ts ≡ suc (length (places_at (below d) n)) → places ts ≡ validity_place n ∷ places_at (below d) n → HasColumns d n ts
with_front d n end k e = absurd (no_places _ _ e)
with_front d n (more t us) k e =
    let h : has_validity d (count (more t us)) ≡ true = equal (count (more t us)) (suc (width_of d)) (k ∙ ap (λ j. suc j) (places_length (below d) n ∙ sym (width_is d))) in
    record { columns = ap (λ b. places (if b then us else more t us)) h ∙ (one_after t us (validity_place n) (places_at (below d) n) e).1 }

without_front : (d : Typ) (n : ℕ) (ts : Trees) → count ts ≡ length (places_at (below d) n) → places ts ≡ places_at (below d) n → HasColumns d n ts
without_front d n ts k e =
    let w : count ts ≡ width_of d = k ∙ places_length (below d) n ∙ sym (width_is d) in
    let h : has_validity d (count ts) ≡ false = unequal (count ts) (suc (width_of d)) (λ q. omega (arith, q, w)) in
    record { columns = ap (λ b. places (if b then after_first ts else ts)) h ∙ e }

columns_by : (d : Typ) (n : ℕ) (ts : Trees) → IsAfter (places_at (below d) n) n (count ts) (places ts) → HasColumns d n ts
columns_by d n ts b = elim (b.ways) [ inl x ↦ without_front d n ts x.0 x.1 | inr x ↦ with_front d n ts x.0 x.1 ]

pub sound_columns : (d : Typ) (n : ℕ) (ts : Trees) → IsSoundNode (untold d n B.struct) ts → places (field_trees d ts) ≡ places_at (below d) n
sound_columns d n ts s = (columns_by d n ts (sound_after d n ts s)).columns

-- Each column has each row.
pub have_row : (us : Trees) (ds : Roses Kind) (n i : ℕ) → places us ≡ places_at ds n → i < n → HaveRow i us
have_row end ds n i e h = tt
have_row (more t us) end n i e h = tt_of (no_places _ _ (sym e))
  where
    tt_of : {P : Type 0} → ⊥ → P
    tt_of x = absurd x
have_row (more t us) (more d ds) n i e h =
    let q = one_after t us (place d n) (places_at ds n) e in
    let l : (label t).len ≡ n = ap (λ (p : Place). p.len) q.0 in
    (omega (arith, l, h), have_row us ds n i q.1 h)

-- The validity that stands in front of the columns has a flag for each row.
pub front_flags : (d : Typ) (n : ℕ) (v : Tree) (us : Trees) → IsSoundNode (untold d n B.struct) (more v us) → count us ≡ width_of d → array_place v ≡ validity_place n
front_flags d n v us s k =
    let b = sound_after d n (more v us) s in
    elim (b.ways) [
      | inl x ↦ absurd (too_many (count us) (width_of d) (x.0 ∙ places_length (below d) n ∙ sym (width_is d)) k)
      | inr x ↦ (one_after v us (validity_place n) (places_at (below d) n) x.1).0
    ]
  where
    too_many : (a w : ℕ) → suc a ≡ w → a ≡ w → ⊥
    too_many a w p q = omega (arith, p, q)

-- ---- the rows of the node

-- Whether a row is valid, where a validity stands in front of the columns, and where none does.
pub valid_front : (d : Typ) (v : Tree) (us : Trees) (i : ℕ) (w : Option Bool) → count us ≡ width_of d → w ≡ flag_in (row_at v i)
    → w ≡ structure_valid (has_validity d (length (rows_below (more v us)))) (rows_below (more v us)) i
valid_front d v us i w k q =
    let h : has_validity d (length (rows_below (more v us))) ≡ true = equal (length (rows_below (more v us))) (suc (width_of d)) (ap (λ j. suc j) (rows_count us ∙ k)) in
    q ∙ sym (ap (λ b. structure_valid b (rows_below (more v us)) i) h)

pub valid_after : (d : Typ) (v : Tree) (us : Trees) (i : ℕ) → (count us ≡ width_of d → ⊥) → Some true ≡ structure_valid (has_validity d (length (rows_below (more v us)))) (rows_below (more v us)) i
valid_after d v us i k =
    let h : has_validity d (length (rows_below (more v us))) ≡ false = unequal (length (rows_below (more v us))) (suc (width_of d)) (λ q. k (omega (arith, q, rows_count us))) in
    sym (ap (λ b. structure_valid b (rows_below (more v us)) i) h)

pub valid_none : (d : Typ) (i : ℕ) → Some true ≡ structure_valid (has_validity d 0) [] i
valid_none d i =
    let h : has_validity d 0 ≡ false = unequal 0 (suc (width_of d)) (λ q. omega (arith, q)) in
    sym (ap (λ b. structure_valid b [] i) h)

split_rows : (b : Bool) (ts : Trees) → rows_below (if b then after_first ts else ts) ≡ (if b then rest (rows_below ts) else rows_below ts)
split_rows true end = refl
split_rows true (more t ts) = refl
split_rows false ts = refl

-- The columns' rows are those of the fields.
columns_rows : (d : Typ) (ts us : Trees) → us ≡ field_trees d ts → rows_below us ≡ fields d (rows_below ts)
columns_rows d ts us e =
    ap (λ (vs : Trees). rows_below vs) e ∙ split_rows (has_validity d (count ts)) ts
    ∙ ap (λ k. if has_validity d k then rest (rows_below ts) else rows_below ts) (sym (rows_count ts))

module _ (d : Typ) (n : ℕ) (ts us : Trees) (e : us ≡ field_trees d ts) where
  pub structure_value : (i : ℕ) (v : Option Bool) (x : Value) → v ≡ structure_valid (has_validity d (length (rows_below ts))) (rows_below ts) i
      → ((f : ℕ → Value) (j : ℕ) → node tuple (values_at (rows_below us) i) ≡ f j → x ≡ where_valid v f j) → x ≡ (rows d n (rows_below ts)).row i
  structure_value i v x w h =
      h (λ j. node tuple (values_at (fields d (rows_below ts)) j)) i (ap (λ rs. node tuple (values_at rs i)) (columns_rows d ts us e))
      ∙ ap (λ (b : Option Bool). where_valid b (λ j. node tuple (values_at (fields d (rows_below ts)) j)) i) w

  pub structure_cells : (i : ℕ) (v : Option Bool) (x : ℕ) → v ≡ structure_valid (has_validity d (length (rows_below ts))) (rows_below ts) i
      → ((f : ℕ → ℕ) (j : ℕ) → suc (cells_at (rows_below us) i) ≡ f j → x ≡ cells_where v f j) → x ≡ (rows d n (rows_below ts)).cells i
  structure_cells i v x w h =
      h (λ j. suc (cells_at (fields d (rows_below ts)) j)) i (ap (λ rs. suc (cells_at rs i)) (columns_rows d ts us e))
      ∙ ap (λ (b : Option Bool). cells_where b (λ j. suc (cells_at (fields d (rows_below ts)) j)) i) w

  pub columns_there : (i : ℕ) → IsSoundNode (untold d n B.struct) ts → i < n → HaveRow i us
  columns_there i s h = subst (λ (vs : Trees). HaveRow i vs) (sym e) (have_row (field_trees d ts) (below d) n i (sound_columns d n ts s) h)

  pub columns_smaller : (k : ℕ) → k ≤ nodes_of us → k ≤ nodes_of ts
  columns_smaller k h = omega (arith, h, ap (λ (vs : Trees). nodes_of vs) e, fewer (has_validity d (count ts)) ts)
    where
      fewer : (b : Bool) (vs : Trees) → nodes_of (if b then after_first vs else vs) ≤ nodes_of vs
      fewer true end = omega arith
      fewer true (more v vs) = omega arith
      fewer false vs = omega arith

-- After the first of some children stand the others.
pub after_length : (ts : List Tree) → 1 ≤ length ts → length (take (length ts - 1) (drop 1 ts)) ≡ length ts - 1
after_length [] h = absurd (omega (arith, h))
after_length (t ∷ ts) h = ap (λ (us : List Tree). length us) (take_all {A = Tree} (suc (length ts) - 1) ts (omega arith)) ∙ one_less (length ts)
  where
    one_less : (n : ℕ) → n ≡ suc n - 1
    one_less n = omega arith

-- They are the columns where there are as many as fields, and else all children are.
pub columns_front : (d : Typ) (v : Tree) (us ts : Trees) → ts ≡ more v us → count us ≡ width_of d → us ≡ field_trees d ts
columns_front d v us ts e k =
    let h : has_validity d (count (more v us)) ≡ true = equal (count (more v us)) (suc (width_of d)) (ap (λ j. suc j) k) in
    sym (ap (λ b. if b then us else more v us) h) ∙ ap (λ (zs : Trees). field_trees d zs) (sym e)

pub columns_whole : (d : Typ) (v : Tree) (us ts : Trees) → ts ≡ more v us → (count us ≡ width_of d → ⊥) → ts ≡ field_trees d ts
columns_whole d v us ts e k =
    let h : has_validity d (count (more v us)) ≡ false = unequal (count (more v us)) (suc (width_of d)) (λ q. k (omega (arith, q))) in
    e ∙ sym (ap (λ b. if b then us else more v us) h) ∙ ap (λ (zs : Trees). field_trees d zs) (sym e)

-- ---- what is of that shape

module _ (f : Fields) (m : Nullability) (n : ℕ) (ts : Trees) where
  abbrev pub ps : List Place
  ps = places_at (roses_of f.types) n

  shaped_after : IsWellShaped (struct_head f m n) ts → IsAfter ps n (count ts) (places ts)
  shaped_after h = after_is ps n (count ts) (places ts) h.planned

  width : length ps ≡ length f.types
  width = places_length (roses_of f.types) n ∙ count-roses_of f.types

  planned_at : (k : ℕ) (qs : List Place) → count ts ≡ k → places ts ≡ qs → after_validity ps n k ≡ Some qs → after_validity ps n (count ts) ≡ Some (places ts)
  planned_at k qs e q h = ap (λ j. after_validity ps n j) e ∙ h ∙ ap (λ (rs : List Place). Some rs) (sym q)

  -- As many children as fields are the columns.
  shaped_without : places ts ≡ ps → IsWellShaped (struct_head f m n) ts
  shaped_without e =
      let k : count ts ≡ length ps = sym (places_count ts) ∙ ap (λ (rs : List Place). length rs) e in
      record {
        fair = tt;
        planned = planned_at (length ps) ps k e (after_self ps n (length ps) refl);
        allows = λ q. absurd (one_more (count ts) (count (roses_of f.types)) q (k ∙ places_length (roses_of f.types) n));
        takes = tt;
        holds = tt;
      }
    where
      one_more : (a w : ℕ) → a ≡ suc w → a ≡ w → ⊥
      one_more a w p q = omega (arith, p, q)

  -- One more is the validity in front.
  shaped_with : m ≡ Nullable → places ts ≡ validity_place n ∷ ps → IsWellShaped (struct_head f m n) ts
  shaped_with nullable e =
      let k : count ts ≡ suc (length ps) = sym (places_count ts) ∙ ap (λ (rs : List Place). length rs) e in
      record {
        fair = tt;
        planned = planned_at (suc (length ps)) (validity_place n ∷ ps) k e (after_one ps n (suc (length ps)) refl);
        allows = λ q. nullable;
        takes = tt;
        holds = tt;
      }

  pub columns_decide : (r : Bool) (c : ℕ) → c ≡ length f.types → count ts ≡ c → (IsTrue r ↔ (places ts ≡ ps)) → IsTrue r ↔ IsWellShaped (struct_head f m n) ts
  columns_decide r c q k g = (λ x. shaped_without (g.0 x), λ h. g.1 (only (shaped_after h)))
    where
      only : IsAfter ps n (count ts) (places ts) → places ts ≡ ps
      only b = elim (b.ways) [ inl x ↦ x.1 | inr x ↦ absurd (one_more (count ts) (length ps) x.0 (k ∙ q ∙ sym width)) ]
        where
          one_more : (a w : ℕ) → a ≡ suc w → a ≡ w → ⊥
          one_more a w p z = omega (arith, p, z)

module _ (f : Fields) (m : Nullability) (n : ℕ) (v : Tree) (us : Trees) where
  pub front_decides : (count (more v us) ≡ length f.types → ⊥) → IsWellShaped (struct_head f m n) (more v us) → (m ≡ Nullable) × (array_place v ≡ validity_place n) × (places us ≡ places_at (roses_of f.types) n)
  front_decides other h =
      let b = shaped_after f m n (more v us) h in
      elim (b.ways) [
        | inl x ↦ absurd (other (x.0 ∙ width f m n (more v us)))
        | inr x ↦ (
          h.allows (x.0 ∙ ap (λ j. suc j) (places_length (roses_of f.types) n)),
          (one_after v us (validity_place n) (places_at (roses_of f.types) n) x.1).0,
          (one_after v us (validity_place n) (places_at (roses_of f.types) n) x.1).1,
        )
      ]

  both_places : array_place v ≡ validity_place n → places us ≡ places_at (roses_of f.types) n → places (more v us) ≡ validity_place n ∷ places_at (roses_of f.types) n
  both_places p q = λ i. p i ∷ q i

  -- Where nullability, validity and columns are right, so is the shape, and where one is not, it is not.
  pub front_right : m ≡ Nullable → array_place v ≡ validity_place n → places us ≡ places_at (roses_of f.types) n → IsWellShaped (struct_head f m n) (more v us)
  front_right nullable p q = shaped_with f m n (more v us) nullable (both_places p q)

  pub front_wrong : (count (more v us) ≡ length f.types → ⊥) → ((m ≡ Nullable) × (array_place v ≡ validity_place n) × (places us ≡ places_at (roses_of f.types) n) → ⊥) → IsWellShaped (struct_head f m n) (more v us) → ⊥
  front_wrong other w h = w (front_decides other h)

pub no_children : (f : Fields) (m : Nullability) (n : ℕ) → (0 ≡ length f.types → ⊥) → IsWellShaped (struct_head f m n) end → ⊥
no_children f m n other h =
    let b = shaped_after f m n end h in
    elim (b.ways) [ inl x ↦ absurd (other (x.0 ∙ width f m n end)) | inr x ↦ absurd (no_places _ _ x.1) ]

-- What rows of structs rest on.
pub ruleset fielded = (sound_fields, structure_value, structure_cells, columns_there, columns_smaller)
