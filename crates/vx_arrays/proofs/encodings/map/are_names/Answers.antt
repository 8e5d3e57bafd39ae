-- The names are those of an entry where both are.
use Rattle.std.proofs.Common.{arith, ◌∙◌, sym}
use Rattle.std.proofs.lemmas.Bool.{iff_false, false≢true}
use Rattle.vx_types.specs.Words.{key_name, value_name}
use Rattle.vx_arrays.proofs.Entries.{names_decide, names_differ}
use Rattle.vx_arrays.proofs.encodings.map.are_names.Goals as goal

pub returns-then-is_text : goal.returns-then-is_text
returns-then-is_text c =
    names_decide c.args.names.now c.key-item.result c.value-item.result (omega (arith, c.in-len2.len_at_least, c.in-len2.len_below)) c.key-item.is c.value-item.is key_name value_name c.is_text-then-is_text.result (c.is_text.ensures.0 c.if-is_text.true) c.is_text-then-is_text.ensures

pub returns-else-is_text : goal.returns-else-is_text
returns-else-is_text c = (
  λ t. absurd (false≢true (sym c.if-is_text.false ∙ t)),
  λ e. absurd (names_differ c.args.names.now c.key-item.result c.value-item.result (omega (arith, c.in-len2.len_at_least, c.in-len2.len_below)) c.key-item.is c.value-item.is key_name value_name (iff_false c.is_text.ensures c.if-is_text.false) e),
)
