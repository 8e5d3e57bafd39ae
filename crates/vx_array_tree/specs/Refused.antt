-- Why parts make no sound node.
use Rattle.std.specs.Prelude.{◌≡◌, Some}
use Rattle.vx_trees.specs.Rose.{count}
use Rattle.vx_array_tree.specs.Sound.{metadata_in, IsControlled}
use Rattle.vx_array_tree.specs.Table.{encoding_of, IsFair, plan_of, lifted, Allows, Holds, Takes, Content}
use Rattle.vx_array_tree.specs.Tree.{Trees, Head, places, encodings, rows_below}

-- A node over its children has the shape that its encoding requires: all that makes it sound but that the control
-- children are known, its content and its statistics.
pub record IsWellShaped (h : Head) (ts : Trees) : Type 0 where
  pub fair : IsFair (encoding_of h.body) (metadata_in h ts)
  pub planned : plan_of (encoding_of h.body) h.dtype h.len (metadata_in h ts) (count ts) ≡ Some (lifted h.dtype h.len h.body (places ts))
  pub allows : Allows (encoding_of h.body) h.dtype (metadata_in h ts) (count ts)
  pub takes : Takes (encoding_of h.body) (encodings ts)
  pub holds : Holds h.dtype h.len h.body

-- A node over its children is of another shape.
abbrev pub IsMisshaped : Head → Trees → Type 0
IsMisshaped h ts = IsWellShaped h ts → ⊥

-- A node over its children is of the right shape, and a foreign node stands in a control child.
pub record IsForeignControlled (h : Head) (ts : Trees) : Type 0 where
  pub shaped : IsWellShaped h ts
  pub foreign : IsControlled h ts → ⊥

-- A node over its children is of the right shape, the control children are known, and its content is broken.
pub record HasBrokenContent (h : Head) (ts : Trees) : Type 0 where
  pub shaped : IsWellShaped h ts
  pub controlled : IsControlled h ts
  pub broken : Content h.dtype h.len h.body (rows_below ts) → ⊥
