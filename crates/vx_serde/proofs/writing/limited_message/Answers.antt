use Rattle.std.proofs.Common.{List, ℕ, sym, subst, rules}
use Rattle.vx_flat.specs.Shows.{Shows}
use Rattle.vx_serialized.specs.ArraySchema.{array_schema}
use Rattle.vx_serde.proofs.writing.limited_message.Goals as goal

pub unreachable-requires-in-Err-BadTable : goal.unreachable-requires-in-Err-BadTable
unreachable-requires-in-Err-BadTable c =
    let P : List ℕ → Type 0 = λ m. Shows array_schema m c.requires.0 in
    c.in-Err-BadTable.ensures.bad (search rules) c.requires.0 (subst P (sym c.as_slice.ensures) c.requires.1)
