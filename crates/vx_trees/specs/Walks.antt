-- What is counted and gathered over a whole tree.
use Rattle.std.specs.Prelude.{ℕ, suc, ◌+◌, max, List, [], ◌++◌}
use Rattle.vx_trees.specs.Rose.{Rose, Roses, node, end, more}

module _ {L : Type 0} where
  abbrev mutual
    -- How many nodes a tree has: its root, and those of the trees below.
    pub nodes : Rose L → ℕ
    nodes (node l ts) = suc (nodes_of ts)

    -- How many nodes the trees below a node have together.
    pub nodes_of : Roses L → ℕ
    nodes_of end = 0
    nodes_of (more t ts) = nodes t + nodes_of ts

  abbrev mutual
    -- How many levels a tree has: one more than the deepest tree below its root has.
    pub levels : Rose L → ℕ
    levels (node l ts) = suc (levels_below ts)

    -- How many levels the deepest of these trees has; none, if there is no tree.
    pub levels_below : Roses L → ℕ
    levels_below end = 0
    levels_below (more t ts) = max (levels t) (levels_below ts)

  abbrev mutual
    -- A list for each label, one after the other in preorder: a node comes
    -- before the trees below it, and they come in their order.
    pub gathered : {A : Type 0} → (L → List A) → Rose L → List A
    gathered f (node l ts) = f l ++ gathered_below f ts

    -- The same over the trees below a node.
    pub gathered_below : {A : Type 0} → (L → List A) → Roses L → List A
    gathered_below f end = []
    gathered_below f (more t ts) = gathered f t ++ gathered_below f ts
