-- Facts that hold at each node of a tree.
use Rattle.vx_trees.specs.Rose.{Rose, Roses, node, end, more}

module _ {L : Type 0} where
  abbrev mutual
    -- A fact of a label and of the trees right below it holds at each node.
    pub Everywhere : (L → Roses L → Type 0) → Rose L → Type 0
    Everywhere F (node l ts) = F l ts × EverywhereBelow F ts

    -- And it holds at each node of each of these trees.
    pub EverywhereBelow : (L → Roses L → Type 0) → Roses L → Type 0
    EverywhereBelow F end = Unit {0}
    EverywhereBelow F (more t ts) = Everywhere F t × EverywhereBelow F ts
