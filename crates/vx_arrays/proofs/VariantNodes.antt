-- Nodes of variants as a whole: whether their rows are valid, and that these are no natural numbers and no flags.
use Rattle.std.proofs.Common.{ℕ, ◌≡◌, ◌<◌, ◌≤◌, List, [], ◌∷◌, Option, Some, None, Bool, false, refl, sym, ap, ◌∙◌, subst, length, get_or, arith}
use Rattle.vx_trees.specs.Rose.{node, more, label, roses_of}
use Rattle.vx_trees.specs.Walks.{nodes}
use Rattle.vx_types.specs.Fits.{IsVariant}
use Rattle.vx_types.specs.Typ.{Typ}
use Rattle.vx_types.specs.Value.{Value, null, opaque, variant, natural}
use Rattle.vx_scalars.specs.Stats.{Stats}
use Rattle.vx_arrays.specs.declared.body.Body.{Body}
use Rattle.vx_arrays.specs.declared.body.Body.TheVariants.{Variant}
use Rattle.vx_array_tree.specs.Body as B
use Rattle.vx_array_tree.specs.Encodings.Variants.{valid_over}
use Rattle.vx_types.specs.Value.{flag_in}
use Rattle.vx_array_tree.specs.Sound.{IsSound, IsSoundNode}
use Rattle.vx_array_tree.specs.Tree.{Tree, Trees, row_at, valid_at}
use Rattle.vx_arrays.specs.Plain.{plain_head}
use Rattle.vx_rows.specs.RowScalars.{IsVariantRow}
use Rattle.vx_arrays.proofs.MergedRows.{variant_row}
use Rattle.vx_arrays.proofs.Shredded.{node_variants}
use Rattle.vx_arrays.proofs.Untold.{untold_node}

-- ---- rows that are no numbers

row_no_natural : (v : Value) → IsVariantRow v → None ≡ natural v
row_no_natural (node null vs) i = refl
row_no_natural (node opaque vs) i = refl
row_no_natural (node (variant d) vs) i = refl
row_no_natural _ i = absurd i

row_no_flag : (v : Value) → IsVariantRow v → None ≡ flag_in v
row_no_flag (node null vs) i = refl
row_no_flag (node opaque vs) i = refl
row_no_flag (node (variant d) vs) i = refl
row_no_flag _ i = absurd i

module _ (d : Typ) (n : ℕ) (z : Stats) (b : Body) (ts : Trees) (t : Tree) (i : ℕ) (q : b ≡ Variant) (w : node (plain_head d n z b) ts ≡ t) (s : IsSound (node (plain_head d n z b) ts)) (h : i < (label t).len) where
  of_variants : IsVariant (label t).dtype
  of_variants =
      let f : IsSoundNode (plain_head d n z Variant) ts = subst (λ (y : Body). IsSoundNode (plain_head d n z y) ts) q s.0 in
      subst (λ (u : Tree). IsVariant (label u).dtype) w (node_variants d n ts (untold_node d n z B.variant ts f))

  its_row : IsVariantRow (row_at t i)
  its_row = variant_row t i (subst (λ (u : Tree). IsSound u) w s) of_variants h

  -- Its rows are neither.
  pub natural_of : None ≡ natural (row_at t i)
  natural_of = row_no_natural (row_at t i) its_row

  pub flag_of : None ≡ flag_in (row_at t i)
  flag_of = row_no_flag (row_at t i) its_row

-- ---- which rows are there

module _ (d : Typ) (n : ℕ) (z : Stats) (b : Body) (ts : Trees) (t c : Tree) (us : List Tree) (i : ℕ) (q : b ≡ Variant) (w : node (plain_head d n z b) ts ≡ t) (e : more c (roses_of us) ≡ ts) where
  whole : node (plain_head d n z Variant) (more c (roses_of us)) ≡ t
  whole = ap (λ (y : Body). node (plain_head d n z y) (more c (roses_of us))) (sym q) ∙ ap (λ (vs : Trees). node (plain_head d n z b) vs) e ∙ w

  pub core_below : nodes c < nodes t
  core_below = omega (arith, ap (λ (u : Tree). nodes u) whole)

  pub core_rows : (label c).len ≡ n → i < (label t).len → i < (label c).len
  core_rows l h = omega (arith, l, h, ap (λ (u : Tree). (label u).len) w)

  pub lone_there : length us ≡ 0 → valid_at c i ≡ valid_at t i
  lone_there l = alone us l whole
    where
      alone : (us : List Tree) → length us ≡ 0 → node (plain_head d n z Variant) (more c (roses_of us)) ≡ t → valid_at c i ≡ valid_at t i
      alone [] l whole = ap (λ (u : Tree). valid_at u i) whole
      alone (u ∷ us) l whole = absurd (omega (arith, l))

  module _ (s : Tree) (l : 1 ≤ length us) (f : s ≡ get_or us 0 s) where
    in_front : (vs : Trees) × (roses_of us ≡ more s vs)
    in_front = front us l f
      where
        front : (us : List Tree) → 1 ≤ length us → s ≡ get_or us 0 s → (vs : Trees) × (roses_of us ≡ more s vs)
        front [] l f = absurd (omega (arith, l))
        front (u ∷ us) l f = (roses_of us, ap (λ (v : Tree). more v (roses_of us)) (sym f))

    both_whole : node (plain_head d n z Variant) (more c (more s in_front.0)) ≡ t
    both_whole = ap (λ (vs : Trees). node (plain_head d n z Variant) (more c vs)) (sym in_front.1) ∙ whole

    pub shredded_below : nodes s < nodes t
    shredded_below = omega (arith, ap (λ (u : Tree). nodes u) both_whole)

    pub shredded_there : valid_over (valid_at s i) (valid_at c i) ≡ valid_at t i
    shredded_there = ap (λ (u : Tree). valid_at u i) both_whole

    -- A shredded row that is null leaves it to the core's.
    pub core_there : Some false ≡ valid_at s i → valid_at c i ≡ valid_at t i
    core_there p = ap (λ (o : Option Bool). valid_over o (valid_at c i)) p ∙ shredded_there

pub ruleset variant_nodes = (core_below, core_rows, lone_there, shredded_below, shredded_there, core_there)
