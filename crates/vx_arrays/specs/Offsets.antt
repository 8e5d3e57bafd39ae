-- Rows of numbers without a validity, as offsets mostly stand.
use Rattle.std.specs.Prelude.{ℕ, List, []}
use Rattle.vx_types.specs.Value.{number, lone}
use Rattle.vx_numbers.specs.declared.ptype.PType.{PType}
use Rattle.vx_array_tree.specs.Bytes.{primitive_at}
use Rattle.vx_array_tree.specs.Rows.{Rows, by_validity, validity}

-- n numbers of a kind, one after the other in these bytes: each row is valid.
abbrev pub plain_rows : PType → ℕ → List ℕ → Rows
plain_rows p n bytes = by_validity n (validity []) (λ i. lone (number (primitive_at p bytes i)))
