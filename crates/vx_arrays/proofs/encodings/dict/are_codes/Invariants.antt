use Rattle.std.proofs.Common.{ℕ, ◌<◌, ◌∷◌, []}
use Rattle.vx_array_tree.specs.Encodings.Dicts.{IsCode}
use Rattle.vx_array_tree.specs.Rows.{IsThere}
use Rattle.vx_array_tree.specs.Tree.{rows_of}
use Rattle.vx_arrays.proofs.encodings.dict.are_codes.Given as goal

-- the codes so far name values where they are there
abbrev pub invariant-loop-i : goal.invariant-loop-i
invariant-loop-i l = (k : ℕ) → k < l.i → IsThere (rows_of l.codes).valid k → IsCode (rows_of l.codes ∷ rows_of l.values ∷ []) k
