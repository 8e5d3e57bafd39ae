-- When an array has the one form in which it is read.
use Rattle.std.specs.Prelude.{ℕ, ◌≡◌}
use Rattle.vx_trees.specs.Everywhere.{Everywhere}
use Rattle.vx_trees.specs.Rose.{end, more, label}
use Rattle.vx_types.specs.Typ.{Typ}
use Rattle.vx_scalars.specs.Stats.{no_stats}
use Rattle.vx_array_tree.specs.Body.{Body}
use Rattle.vx_array_tree.specs.Body as B
use Rattle.vx_array_tree.specs.Encoding as E
use Rattle.vx_array_tree.specs.Table.{encoding_of, IsNormalBody}
use Rattle.vx_array_tree.specs.Tree.{Tree, Trees, Head, places}

-- A node is foreign, and of this type and length.
pub record IsForeignAt (d : Typ) (n : ℕ) (h : Head) : Type 0 where
  pub encoding : encoding_of h.body ≡ E.foreign
  pub dtype : h.dtype ≡ d
  pub len : h.len ≡ n

-- So is each of several arrays' roots.
abbrev pub AreForeignAt : Typ → ℕ → Trees → Type 0
AreForeignAt d n end = Unit {0}
AreForeignAt d n (more t ts) = IsForeignAt d n (label t) × AreForeignAt d n ts

-- A foreign node is normal if it has no statistics, and only foreign children of its own type and length.
pub record IsNormalForeign (h : Head) (ts : Trees) : Type 0 where
  pub stats : h.stats ≡ no_stats
  pub children : AreForeignAt h.dtype h.len ts

-- Another node is normal if its encoding says so: a dictionary's values have its own type, and a list view
-- carries no flag.
abbrev pub IsNormalBy : Body → Head → Trees → Type 0
IsNormalBy (B.foreign x) h ts = IsNormalForeign h ts
IsNormalBy b h ts = IsNormalBody b h.dtype (places ts)

abbrev pub IsNormalNode : Head → Trees → Type 0
IsNormalNode h ts = IsNormalBy h.body h ts

-- An array is normal if each of its nodes is.
abbrev pub IsNormal : Tree → Type 0
IsNormal = Everywhere IsNormalNode
