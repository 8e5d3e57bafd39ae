-- The types are those of an entry where both are.
use Rattle.std.proofs.Common.{arith, ◌∙◌, sym, subst, ◌≡◌}
use Rattle.std.specs.Prelude.{◌↔◌, IsTrue}
use Rattle.std.proofs.lemmas.Bool.{iff_false, false≢true}
use Rattle.vx_types.specs.Seen.{typ}
use Rattle.vx_types.specs.Typ.{Typ}
use Rattle.vx_arrays.proofs.Entries.{types_decide, types_differ}
use Rattle.vx_arrays.proofs.encodings.map.are_types.Goals as goal

pub returns-then-is_type : goal.returns-then-is_type
returns-then-is_type c =
    types_decide c.args.types.now c.key-item.result c.value-item.result (omega (arith, c.in-len2.len_at_least, c.in-len2.len_below)) c.key-item.is c.value-item.is c.args.map.now.key c.args.map.now.value c.is_type-then-is_type.result (c.is_type.ensures.0 c.if-is_type.true ∙ c.key_dtype.ensures)
    (subst (λ (y : Typ). IsTrue c.is_type-then-is_type.result ↔ (typ c.value-item.result ≡ y)) c.value_dtype.ensures c.is_type-then-is_type.ensures)

pub returns-else-is_type : goal.returns-else-is_type
returns-else-is_type c = (
  λ t. absurd (false≢true (sym c.if-is_type.false ∙ t)),
  λ e. absurd (types_differ c.args.types.now c.key-item.result c.value-item.result (omega (arith, c.in-len2.len_at_least, c.in-len2.len_below)) c.key-item.is c.value-item.is c.args.map.now.key c.args.map.now.value (λ k. iff_false c.is_type.ensures c.if-is_type.false (k ∙ sym c.key_dtype.ensures)) e),
)
