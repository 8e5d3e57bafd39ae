-- Facts at each node, of a node's parts and of one tree more.
use Rattle.std.specs.Prelude.{ℕ, zero, suc, ◌≡◌, ◌<◌, List, [], ◌∷◌, ◌++◌, length}
use Rattle.std.proofs.Common.{arith, get_or}
use Rattle.vx_trees.specs.Rose.{Rose, Roses, node, label, below, roses_of}
use Rattle.vx_trees.specs.Everywhere.{Everywhere, EverywhereBelow}

module _ {L : Type 0} where
  -- What holds at each node holds at the root, and at each node below.
  pub everywhere-parts : (F : L → Roses L → Type 0) (t : Rose L) → Everywhere F t → F (label t) (below t) × EverywhereBelow F (below t)
  everywhere-parts F (node l ts) h = h

  pub everywhere-node : (F : L → Roses L → Type 0) (t : Rose L) → F (label t) (below t) → EverywhereBelow F (below t) → Everywhere F t
  everywhere-node F (node l ts) h g = (h, g)

  pub everywhere-at : (F : L → Roses L → Type 0) (ts : List (Rose L)) (i : ℕ) (d : Rose L) → i < length ts → EverywhereBelow F (roses_of ts) → Everywhere F (get_or ts i d)
  everywhere-at F [] i d h g = absurd (omega (arith, h))
  everywhere-at F (t ∷ ts) zero d h g = g.0
  everywhere-at F (t ∷ ts) (suc i) d h g = everywhere-at F ts i d (omega (arith, h)) g.1

  everywhere_below-snoc_at : (F : L → Roses L → Type 0) (ts : List (Rose L)) (u : Rose L) → EverywhereBelow F (roses_of ts) → Everywhere F u → EverywhereBelow F (roses_of (ts ++ u ∷ []))
  everywhere_below-snoc_at F [] u g h = (h, tt)
  everywhere_below-snoc_at F (t ∷ ts) u g h = (g.0, everywhere_below-snoc_at F ts u g.1 h)

  -- A fact that holds at each node of some trees, and of one more, holds at each node of all of them.
  pub everywhere_below-snoc : (F : L → Roses L → Type 0) (ts us : List (Rose L)) (u : Rose L) → EverywhereBelow F (roses_of ts) → Everywhere F u → us ≡ ts ++ u ∷ [] → EverywhereBelow F (roses_of us)
  everywhere_below-snoc F ts us u g h e = rw e (everywhere_below-snoc_at F ts u g h)
