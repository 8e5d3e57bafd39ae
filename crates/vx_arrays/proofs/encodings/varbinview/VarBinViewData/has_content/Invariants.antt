use Rattle.std.proofs.Common.{ℕ, ◌<◌}
use Rattle.vx_types.specs.Seen.{typ}
use Rattle.vx_array_tree.specs.Rows.{IsThere, validity}
use Rattle.vx_array_tree.specs.Tree.{option_trees, rows_below}
use Rattle.vx_arrays.specs.VarBinViews.{IsRight}
use Rattle.vx_arrays.proofs.encodings.varbinview.VarBinViewData.has_content.Given as goal

-- the views so far are right, where their rows are valid
abbrev pub invariant-loop-i : goal.invariant-loop-i
invariant-loop-i l = (k : ℕ) → k < l.i → IsThere (validity (rows_below (option_trees l.validity))) k → IsRight (typ l.dtype) l.self k
