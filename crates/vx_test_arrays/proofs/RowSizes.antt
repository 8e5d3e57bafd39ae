-- The measure of the recursion over rows with rows in them.
use Rattle.std.proofs.Common.{ℕ, zero, suc, ◌≡◌, ◌≤◌, ◌<◌, List, [], ◌∷◌, ap, length, get_or, arith}
use Rattle.vx_trees.specs.Rose.{roses_of}
use Rattle.vx_trees.specs.Walks.{nodes, nodes_of}
use Rattle.vx_rows.specs.Plain.{plain_value, plain_values}
use Rattle.vx_rows.specs.declared.row.RowValue.{RowValue}

-- A value in a list has no more nodes than the list.
pub smaller_value : (vs : List RowValue) (i : ℕ) (v : RowValue) → i < length vs → v ≡ get_or vs i v → nodes (plain_value v) ≤ nodes_of (roses_of (plain_values vs))
smaller_value [] i v h q = absurd (omega (arith, h))
smaller_value (u ∷ vs) zero v h q = let e : nodes (plain_value v) ≡ nodes (plain_value u) = ap (λ (w : RowValue). nodes (plain_value w)) q in omega (arith, e)
smaller_value (u ∷ vs) (suc i) v h q = let g : i < length vs = omega (arith, h) in omega (arith, smaller_value vs i v g q)
