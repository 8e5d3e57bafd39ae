use Rattle.std.proofs.Common.{ℕ, ◌<◌}
use Rattle.vx_types.specs.Content.{IsText}
use Rattle.vx_array_tree.specs.Encodings.VarBins.{bytes_at}
use Rattle.vx_array_tree.specs.Rows.{IsThere, validity}
use Rattle.vx_array_tree.specs.Tree.{option_trees, rows_below, rows_of}
use Rattle.vx_arrays.proofs.texts.are_texts.Given as goal

-- the parts so far are texts, where their rows are valid
abbrev pub invariant-loop-i : goal.invariant-loop-i
invariant-loop-i l =
    (k : ℕ) → k < l.i → IsThere (validity (rows_below (option_trees l.validity))) k → IsText (bytes_at l.bytes (rows_of l.offsets) k)
