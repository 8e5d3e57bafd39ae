-- The array that is read back where an array was written.
use Rattle.std.specs.Prelude.{ℕ, ◌≡◌, List, [], ◌∷◌, Option, Some, None}
use Rattle.vx_trees.specs.Everywhere.{Everywhere}
use Rattle.vx_trees.specs.Rose.{node, end, more, label, count}
use Rattle.vx_types.specs.Typ.{Typ}
use Rattle.vx_scalars.specs.WrittenStats.{written_stats}
use Rattle.vx_array_tree.specs.Body.{Body}
use Rattle.vx_array_tree.specs.Body as B
use Rattle.vx_array_tree.specs.Encodings.Foreigns as Foreigns
use Rattle.vx_array_tree.specs.Place.{Place}
use Rattle.vx_array_tree.specs.Sound.{metadata_in}
use Rattle.vx_array_tree.specs.Table.{encoding_of, plan_of, cleared}
use Rattle.vx_array_tree.specs.Tree.{Tree, Trees, Head, places, untold}

-- The types of places.
abbrev pub types_in : List Place → List Typ
types_in [] = []
types_in (p ∷ ps) = p.dtype ∷ types_in ps

-- The types of the places that are planned, or else of the children.
abbrev pub planned_types : Option (List Place) → Trees → List Typ
planned_types None ts = types_in (places ts)
planned_types (Some ps) ts = types_in ps

-- The types that a node's children are read back at, where the node is read back at a type: those that its
-- encoding plans for such a node. Where the type brings nullability, this carries it down to a dictionary's
-- values, an extension's storage, a map's entries, a union's tags and a variant's core; all other children
-- keep their types. (Where nothing is planned the node is not sound.)
abbrev pub child_types : Typ → Head → Trees → List Typ
child_types d h ts = planned_types (plan_of (encoding_of h.body) d h.len (metadata_in h ts) (count ts)) ts

-- A node as it is read back at a type: of that type, and holding what is not lost where it is written.
abbrev pub canon_head : Typ → Head → Head
canon_head d h = record { dtype = d; len = h.len; stats = written_stats h.stats; body = cleared h.body }

-- How nodes are spelled on the wire: each one's identifier, its metadata as bytes, and its buffers.
abbrev pub Spelling : Type 0
Spelling = Head → Trees → Foreigns.Data

-- The foreign node of a node's parts, of a type and a length.
abbrev pub foreign_head : Spelling → Typ → ℕ → Head → Trees → Head
foreign_head spelled d n h ts = untold d n (B.foreign (spelled h ts))

abbrev mutual
  -- An opaque array: each node is the foreign node of its parts, of one type and length.
  pub as_foreign : Spelling → Typ → ℕ → Tree → Tree
  as_foreign spelled d n (node h ts) = node (foreign_head spelled d n h ts) (all_foreign spelled d n ts)

  -- Several arrays so.
  pub all_foreign : Spelling → Typ → ℕ → Trees → Trees
  all_foreign spelled d n end = end
  all_foreign spelled d n (more t ts) = more (as_foreign spelled d n t) (all_foreign spelled d n ts)

-- A node as it is read back, by what it is: a foreign one with all below it as it is spelled, any other as it
-- is known.
abbrev pub canon_by : Body → Tree → Tree → Tree
canon_by (B.foreign x) known unknown = unknown
canon_by _ known unknown = known

abbrev mutual
  -- An array as it is read back at a type: each node so, over its children, each at its own type.
  pub canon_at : Spelling → Typ → Tree → Tree
  canon_at spelled d (node h ts) =
      canon_by h.body
      (node (canon_head d h) (canon_all spelled (child_types d h ts) ts))
      (node (foreign_head spelled d h.len h ts) (all_foreign spelled d h.len ts))

  -- Arrays as they are read back, each at a type. (As many types are given as there are arrays; where one is
  -- missing, an array keeps its own.)
  pub canon_all : Spelling → List Typ → Trees → Trees
  canon_all spelled ds end = end
  canon_all spelled ds (more t ts) = elim ds [
    | [] ↦ more (canon_at spelled (label t).dtype t) (canon_all spelled [] ts)
    | d ∷ es ↦ more (canon_at spelled d t) (canon_all spelled es ts)
  ]

-- An array as it is read back at its own type.
abbrev pub canon : Spelling → Tree → Tree
canon spelled t = canon_at spelled (label t).dtype t

-- ---- statistics alone

-- A node with what is written of its statistics in their place.
abbrev pub written_head : Head → Head
written_head h = record { dtype = h.dtype; len = h.len; stats = written_stats h.stats; body = h.body }

abbrev mutual
  -- An array with what is written of each node's statistics in their place.
  pub stats_written : Tree → Tree
  stats_written (node h ts) = node (written_head h) (each_stats_written ts)

  -- The same of each of a node's children.
  pub each_stats_written : Trees → Trees
  each_stats_written end = end
  each_stats_written (more t ts) = more (stats_written t) (each_stats_written ts)

-- A node's statistics are what is written of them: nothing is left out, and a sum that is no number is the NaN
-- of its width.
abbrev pub IsKeptNode : Head → Trees → Type 0
IsKeptNode h ts = written_stats h.stats ≡ h.stats

-- So are those of each node of an array.
abbrev pub KeepsStats : Tree → Type 0
KeepsStats = Everywhere IsKeptNode
