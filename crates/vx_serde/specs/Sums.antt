-- An array in which each sum that is no number is the one NaN of its width, and all else is unchanged.
use Rattle.vx_trees.specs.Rose.{node, end, more}
use Rattle.vx_array_tree.specs.Tree.{Tree, Trees, Head}
use Rattle.vx_scalar_wire.specs.StatsKept.{canonical_stats}

-- A node with its statistics, in which a sum that is no number is the NaN of its width.
abbrev pub canonical_head : Head → Head
canonical_head h = record { dtype = h.dtype; len = h.len; stats = canonical_stats h.stats; body = h.body }

abbrev mutual
  -- This at each node of an array.
  pub sums_canonical : Tree → Tree
  sums_canonical (node h ts) = node (canonical_head h) (each_sums_canonical ts)

  -- This at each node of several arrays.
  pub each_sums_canonical : Trees → Trees
  each_sums_canonical end = end
  each_sums_canonical (more t ts) = more (sums_canonical t) (each_sums_canonical ts)
