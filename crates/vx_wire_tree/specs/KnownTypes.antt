-- Whether the types in metadata are known.
use Rattle.std.specs.Prelude.{Some}
use Rattle.vx_trees.specs.Everywhere.{Everywhere}
use Rattle.vx_types.specs.Known.{ExtMeaning, IsKnown}
use Rattle.vx_array_tree.specs.Metadata.{Metadata}
use Rattle.vx_array_tree.specs.Metadata as M
use Rattle.vx_array_tree.specs.Sound.{metadata_in}
use Rattle.vx_array_tree.specs.Tree.{Tree, Trees, Head}

-- A type in metadata is known.
abbrev pub IsKnownIn : ExtMeaning → Metadata → Type 0
IsKnownIn x (M.variant (Some e)) = IsKnown x e
IsKnownIn x _ = Unit {0}

-- The types in a node's metadata are known.
abbrev pub KnowsNode : ExtMeaning → Head → Trees → Type 0
KnowsNode x h ts = IsKnownIn x (metadata_in h ts)

-- The types in the metadata of each node of an array are known.
abbrev pub KnowsTypes : ExtMeaning → Tree → Type 0
KnowsTypes x = Everywhere (KnowsNode x)
