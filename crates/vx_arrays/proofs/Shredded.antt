-- The children of a variant node: its core, and at most a shredded child; and its rows.
use Rattle.std.proofs.Common.{ℕ, suc, ◌≡◌, ◌≤◌, ◌+◌, List, [], ◌∷◌, Some, Bool, true, false, refl, sym, ap, ◌∙◌, subst, length, get_or, arith}
use Rattle.std.specs.Prelude.{◌↔◌, IsTrue}
use Rattle.std.proofs.lemmas.Bool.{false≢true}
use Rattle.std.proofs.lemmas.Option.{none-some}
use Rattle.vx_trees.specs.Rose.{node, end, more, label, count, roses_of}
use Rattle.vx_trees.specs.Walks.{nodes, nodes_of}
use Rattle.vx_trees.proofs.LawsOfLists.{heads, tails}
use Rattle.vx_types.specs.Fits.{IsVariant}
use Rattle.vx_types.specs.Kind as K
use Rattle.vx_types.specs.Typ.{Typ, IsType}
use Rattle.vx_array_tree.specs.Body as B
use Rattle.vx_array_tree.specs.Encodings.Variants.{metadata_of, plan, rows}
use Rattle.vx_array_tree.specs.Place.{Place, place}
use Rattle.vx_array_tree.specs.Refused.{IsWellShaped}
use Rattle.vx_array_tree.specs.Sound.{IsSoundNode}
use Rattle.vx_array_tree.specs.Tree.{Tree, Trees, array_place, cells, places, row_at, rows_below, untold}
use Rattle.vx_array_tree.proofs.Plans.{exactly_is}
use Rattle.vx_arrays.specs.Variants.{AreRows, IsOfVariants, merged_cells, merged_row}

-- ---- what a plan says

-- A core of type Variant and of n rows, and a child of n rows after it.
pub record IsOverCore (d : Typ) (n : ℕ) (c : Tree) (us : Trees) : Type 0 where
  pub variants : IsOfVariants d
  pub core : array_place c ≡ place d n
  pub after : AreRows n us

planned : (d : Typ) (n : ℕ) (c : Tree) (us : Trees) → plan d n (metadata_of (places (more c us))) (suc (count us)) ≡ Some (places (more c us)) → IsOverCore d n c us
planned (node (K.variant m) end) n c end p =
    let e = exactly_is (place (node (K.variant m) end) n ∷ []) 1 (places (more c end)) p in
    record { variants = tt; core = heads _ _ _ _ e; after = tt }
planned (node (K.variant m) end) n c (more s end) p =
    let e = exactly_is (place (node (K.variant m) end) n ∷ place (label s).dtype n ∷ []) 2 (places (more c (more s end))) p in
    let f = heads _ _ _ _ (tails _ _ _ _ e) in
    record { variants = tt; core = heads _ _ _ _ e; after = (ap (λ (q : Place). q.len) f, tt) }
planned (node (K.variant m) end) n c (more s (more t us)) p = absurd (none-some _ p)
planned _ n c us p = absurd (cc)

never_alone : (d : Typ) (n : ℕ) → plan d n (metadata_of []) 0 ≡ Some [] → ⊥
never_alone (node (K.variant m) end) n p = absurd (none-some _ p)
never_alone _ n p = absurd (cc)

-- ---- in the words of a slice

pub sound_some : (d : Typ) (n : ℕ) (us : List Tree) → IsSoundNode (untold d n B.variant) (roses_of us) → 1 ≤ length us
sound_some d n [] s = absurd (never_alone d n s.planned)
sound_some d n (u ∷ us) s = omega arith

of_variants : (d e : Typ) → IsOfVariants d → e ≡ d → IsVariant e
of_variants (node (K.variant m) end) e v q = subst (λ (z : Typ). IsVariant z) (sym q) tt
of_variants _ e v q = absurd v

variants_type : (d : Typ) → IsOfVariants d → IsVariant d
variants_type d v = of_variants d d v refl

-- A sound variant node is of such a type.
pub node_variants : (d : Typ) (n : ℕ) (ts : Trees) → IsSoundNode (untold d n B.variant) ts → IsVariant d
node_variants d n end s = absurd (never_alone d n s.planned)
node_variants d n (more c us) s = variants_type d (planned d n c us s.planned).variants

module _ (d : Typ) (n : ℕ) (c : Tree) (us ts : Trees) (e : more c us ≡ ts) (s : IsSoundNode (untold d n B.variant) ts) where
  over : IsOverCore d n c us
  over = planned d n c us (subst (λ (ws : Trees). plan d n (metadata_of (places ws)) (count ws) ≡ Some (places ws)) (sym e) s.planned)

  pub core_variants : IsVariant (label c).dtype
  core_variants = of_variants d (label c).dtype over.variants (ap (λ (q : Place). q.dtype) over.core)

  pub core_counted : (label c).len ≡ n
  core_counted = ap (λ (q : Place). q.len) over.core

  pub after_counted : AreRows n us
  after_counted = over.after

pub ruleset parts = (sound_some, core_variants, core_counted, after_counted)

-- ---- rows

module _ (n : ℕ) (c : Tree) (us : List Tree) (ts : Trees) (i : ℕ) (e : more c (roses_of us) ≡ ts) where
  none_after : length us ≡ 0 → more c end ≡ ts
  none_after l = ap (λ (ws : Trees). more c ws) (sym (empty us l)) ∙ e
    where
      empty : (us : List Tree) → length us ≡ 0 → roses_of us ≡ end
      empty [] l = refl
      empty (u ∷ us) l = absurd (omega (arith, l))

  module _ (l : length us ≡ 0) where
    pub lone_value : row_at c i ≡ (rows n (metadata_of (places ts)) (rows_below ts)).row i
    lone_value = ap (λ (ws : Trees). (rows n (metadata_of (places ws)) (rows_below ws)).row i) (none_after l)

    pub lone_cells : cells c i ≡ (rows n (metadata_of (places ts)) (rows_below ts)).cells i
    lone_cells = ap (λ (ws : Trees). (rows n (metadata_of (places ws)) (rows_below ws)).cells i) (none_after l)

  pub core_smaller : nodes c ≤ nodes_of ts
  core_smaller = omega (arith, ap (λ (ws : Trees). nodes_of ws) e)

  module _ (s : Tree) (l : 1 ≤ length us) (q : s ≡ get_or us 0 s) where
    some_after : (us : List Tree) → 1 ≤ length us → s ≡ get_or us 0 s → (ws : Trees) × (roses_of us ≡ more s ws)
    some_after [] l q = absurd (omega (arith, l))
    some_after (u ∷ us) l q = (roses_of us, ap (λ (t : Tree). more t (roses_of us)) (sym q))

    front : (ws : Trees) × (more c (more s ws) ≡ ts)
    front = let b = some_after us l q in (b.0, ap (λ (ws : Trees). more c ws) (sym b.1) ∙ e)

    pub merged_value : merged_row c s i ≡ (rows n (metadata_of (places ts)) (rows_below ts)).row i
    merged_value = ap (λ (ws : Trees). (rows n (metadata_of (places ws)) (rows_below ws)).row i) front.1

    pub merged_count : merged_cells c s i ≡ (rows n (metadata_of (places ts)) (rows_below ts)).cells i
    merged_count = ap (λ (ws : Trees). (rows n (metadata_of (places ws)) (rows_below ws)).cells i) front.1

    pub both_smaller : nodes c + nodes s ≤ nodes_of ts
    both_smaller = omega (arith, ap (λ (ws : Trees). nodes_of ws) front.1)

    pub shredded_counted : AreRows n (roses_of us) → (label s).len ≡ n
    shredded_counted a = (subst (λ (ws : Trees). AreRows n ws) (some_after us l q).1 a).0

pub ruleset shredded = (lone_value, lone_cells, core_smaller, merged_value, merged_count, both_smaller, shredded_counted)

-- ---- what is of that shape

shaped_planned : (d : Typ) (n : ℕ) (c : Tree) (us : Trees) → IsWellShaped (untold d n B.variant) (more c us) → IsOverCore d n c us
shaped_planned d n c us s = planned d n c us s.planned

pub lone_shaped : (d : Typ) (n : ℕ) (c : Tree) → IsOfVariants d → array_place c ≡ place d n → IsWellShaped (untold d n B.variant) (more c end)
lone_shaped (node (K.variant m) end) n c v e = record { fair = tt; planned = ap (λ (p : Place). Some (p ∷ [])) (sym e); allows = tt; takes = tt; holds = tt }
lone_shaped _ n c v e = absurd v

pub both_shaped : (d : Typ) (n : ℕ) (c s : Tree) → IsOfVariants d → array_place c ≡ place d n → (label s).len ≡ n → IsType (label s).dtype → IsWellShaped (untold d n B.variant) (more c (more s end))
both_shaped (node (K.variant m) end) n c s v e l t =
    record { fair = t; planned = λ i. Some (sym e i ∷ place (label s).dtype (sym l i) ∷ []); allows = tt; takes = tt; holds = tt }
both_shaped _ n c s v e l t = absurd v

-- Arrays that are neither one nor two are no children of such a node.
pub no_other : (d : Typ) (n : ℕ) (us : List Tree) → (length us ≡ 1 → ⊥) → (length us ≡ 2 → ⊥) → IsWellShaped (untold d n B.variant) (roses_of us) → ⊥
no_other d n [] f g s = never_alone d n s.planned
no_other d n (c ∷ []) f g s = f refl
no_other d n (c ∷ s0 ∷ []) f g s = g refl
no_other d n (c ∷ s0 ∷ t ∷ us) f g s = three d n c s0 t (roses_of us) s.planned
  where
    three : (d : Typ) (n : ℕ) (c s t : Tree) (us : Trees) → plan d n (metadata_of (places (more c (more s (more t us))))) (suc (suc (suc (count us)))) ≡ Some (places (more c (more s (more t us)))) → ⊥
    three (node (K.variant m) end) n c s t us p = absurd (none-some _ p)
    three _ n c s t us p = absurd (cc)

-- One array is where it is the core.
pub lone_decides : (d : Typ) (n : ℕ) (c : Tree) (b : Bool) → (IsTrue b ↔ (IsOfVariants d × (array_place c ≡ place d n))) → IsTrue b ↔ IsWellShaped (untold d n B.variant) (more c end)
lone_decides d n c b h =
    (λ t. let k = h.0 t in lone_shaped d n c k.0 k.1, λ s. let k = shaped_planned d n c end s in h.1 (k.variants, k.core))

-- Two are where the other has as many rows.
pub both_decide : (d : Typ) (n : ℕ) (c s : Tree) → IsType (label s).dtype → (IsOfVariants d × (array_place c ≡ place d n)) × ((label s).len ≡ n) → IsWellShaped (untold d n B.variant) (more c (more s end))
both_decide d n c s t k = both_shaped d n c s k.0.0 k.0.1 k.1 t

pub both_were : (d : Typ) (n : ℕ) (c s : Tree) → IsWellShaped (untold d n B.variant) (more c (more s end)) → (IsOfVariants d × (array_place c ≡ place d n)) × ((label s).len ≡ n)
both_were d n c s w = let k = shaped_planned d n c (more s end) w in ((k.variants, k.core), k.after.0)

-- ---- the shape in the words of a slice

one_item : (us : List Tree) (c : Tree) → length us ≡ 1 → c ≡ get_or us 0 c → more c end ≡ roses_of us
one_item [] c l e = absurd (omega (arith, l))
one_item (u ∷ []) c l e = ap (λ (t : Tree). more t end) e
one_item (u ∷ v ∷ us) c l e = absurd (omega (arith, l))

two_items : (us : List Tree) (c s : Tree) → length us ≡ 2 → c ≡ get_or us 0 c → s ≡ get_or us 1 s → more c (more s end) ≡ roses_of us
two_items [] c s l e f = absurd (omega (arith, l))
two_items (u ∷ []) c s l e f = absurd (omega (arith, l))
two_items (u ∷ v ∷ []) c s l e f = λ i. more (e i) (more (f i) end)
two_items (u ∷ v ∷ w ∷ us) c s l e f = absurd (omega (arith, l))

pub one_shaped : (d : Typ) (n : ℕ) (us : List Tree) (c : Tree) (b : Bool) → length us ≡ 1 → c ≡ get_or us 0 c → (IsTrue b ↔ (IsOfVariants d × (array_place c ≡ place d n)))
    → IsTrue b ↔ IsWellShaped (untold d n B.variant) (roses_of us)
one_shaped d n us c b l e h = subst (λ (ts : Trees). IsTrue b ↔ IsWellShaped (untold d n B.variant) ts) (one_item us c l e) (lone_decides d n c b h)

pub two_shaped : (d : Typ) (n : ℕ) (us : List Tree) (c s : Tree) (b r : Bool) → length us ≡ 2 → c ≡ get_or us 0 c → s ≡ get_or us 1 s → b ≡ true → (IsTrue b ↔ (IsOfVariants d × (array_place c ≡ place d n)))
    → (IsTrue r ↔ ((label s).len ≡ n)) → IsType (label s).dtype → IsTrue r ↔ IsWellShaped (untold d n B.variant) (roses_of us)
two_shaped d n us c s b r l e f t h g k = subst (λ (ts : Trees). IsTrue r ↔ IsWellShaped (untold d n B.variant) ts) (two_items us c s l e f) (
  (λ y. both_decide d n c s k (h.0 t, g.0 y)),
  (λ w. g.1 (both_were d n c s w).1),
)

pub two_unshaped : (d : Typ) (n : ℕ) (us : List Tree) (c s : Tree) (b : Bool) → length us ≡ 2 → c ≡ get_or us 0 c → s ≡ get_or us 1 s → b ≡ false → (IsTrue b ↔ (IsOfVariants d × (array_place c ≡ place d n)))
    → IsTrue false ↔ IsWellShaped (untold d n B.variant) (roses_of us)
two_unshaped d n us c s b l e f t h = subst (λ (ts : Trees). IsTrue false ↔ IsWellShaped (untold d n B.variant) ts) (two_items us c s l e f) (
  (λ y. absurd (false≢true y)),
  (λ w. absurd (false≢true (sym t ∙ h.1 (both_were d n c s w).0))),
)

pub none_shaped : (d : Typ) (n : ℕ) (us : List Tree) → length us ≡ 0 → IsTrue false ↔ IsWellShaped (untold d n B.variant) (roses_of us)
none_shaped d n us l = ((λ y. absurd (false≢true y)), (λ w. absurd (no_other d n us (λ k. omega (arith, l, k)) (λ k. omega (arith, l, k)) w)))

pub many_shaped : (d : Typ) (n : ℕ) (us : List Tree) → 3 ≤ length us → IsTrue false ↔ IsWellShaped (untold d n B.variant) (roses_of us)
many_shaped d n us l = ((λ y. absurd (false≢true y)), (λ w. absurd (no_other d n us (λ k. omega (arith, l, k)) (λ k. omega (arith, l, k)) w)))

pub ruleset shapes = (one_shaped, two_shaped, two_unshaped, none_shaped, many_shaped)
