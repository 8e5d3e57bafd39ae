-- The array that a wire tree decodes to at a type and a length.
use Rattle.std.specs.Prelude.{ℕ, ◌≡◌}
use Rattle.vx_trees.specs.Rose.{label}
use Rattle.vx_types.specs.Typ.{Typ}
use Rattle.vx_array_tree.specs.Sound.{IsSound}
use Rattle.vx_array_tree.specs.Tree.{Tree}
use Rattle.vx_wire_tree.specs.Codec.{Codec}
use Rattle.vx_wire_tree.specs.Matches.{Matches}
use Rattle.vx_wire_tree.specs.Session.{SessionMeaning}
use Rattle.vx_wire_tree.specs.Wire.{Wire}

-- The array matches the wire tree, is sound, and is of this type and length.
pub record DecodesTo (c : Codec) (s : SessionMeaning) (w : Wire) (d : Typ) (n : ℕ) (t : Tree) : Type 0 where
  pub matched : Matches c s w t
  pub dtype : (label t).dtype ≡ d
  pub len : (label t).len ≡ n
  pub sound : IsSound t
