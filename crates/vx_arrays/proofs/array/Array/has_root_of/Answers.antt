-- The roots are equal where their types, lengths and bodies are.
use Rattle.std.proofs.Common.{sym, ◌∙◌}
use Rattle.std.proofs.lemmas.Bool.{not-false}
use Rattle.vx_trees.proofs.Sameness.{same-is}
use Rattle.vx_types.specs.Seen.{typ}
use Rattle.vx_types.specs.Typ.{typ_code}
use Rattle.vx_arrays.proofs.Comparing.{root_decided}
use Rattle.vx_arrays.proofs.array.Array.has_root_of.Goals as goal

pub returns : goal.returns
returns c =
    root_decided c.args.self.now c.args.other.now c.children.result.now c.children-2.result.now c.body.result.now c.body-2.result.now c.array_eq.result
    (sym c.dtype.ensures.dtype ∙ same-is typ_code (typ c.dtype.result.now) (typ c.dtype-2.result.now) (not-false _ (sym c.if-ne.ensures)) ∙ c.dtype-2.ensures.dtype)
    (sym c.len.ensures.len ∙ c.if-len.false ∙ c.len-2.ensures.len)
    c.children.ensures.children c.children-2.ensures.children c.if-children.false c.body.ensures c.body-2.ensures c.array_eq.ensures
