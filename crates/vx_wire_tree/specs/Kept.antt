-- Wire trees that are kept unchanged: foreign arrays, of one type and length.
use Rattle.std.specs.Prelude.{ℕ}
use Rattle.vx_trees.specs.Everywhere.{EverywhereBelow}
use Rattle.vx_trees.specs.Rose.{label}
use Rattle.vx_types.specs.Typ.{Typ}
use Rattle.vx_array_tree.specs.Normal.{IsForeignAt, AreForeignAt, IsNormal, IsNormalNode}
use Rattle.vx_array_tree.specs.Sound.{IsSound, IsSoundNode}
use Rattle.vx_array_tree.specs.Tree.{Tree, Trees}
use Rattle.vx_wire_tree.specs.Matches.{IsRaw, AreRaw}
use Rattle.vx_wire_tree.specs.Wire.{Wire, Wires}

-- The array is the wire tree unchanged, each node foreign, of this type and length.
pub record IsKeptAs (w : Wire) (d : Typ) (n : ℕ) (t : Tree) : Type 0 where
  pub raw : IsRaw w t
  pub place : IsForeignAt d n (label t)
  pub sound : IsSound t
  pub normal : IsNormal t

-- The same for arrays, one by one.
pub record AreKeptAs (ws : Wires) (d : Typ) (n : ℕ) (ts : Trees) : Type 0 where
  pub raw : AreRaw ws ts
  pub places : AreForeignAt d n ts
  pub sound : EverywhereBelow IsSoundNode ts
  pub normal : EverywhereBelow IsNormalNode ts
