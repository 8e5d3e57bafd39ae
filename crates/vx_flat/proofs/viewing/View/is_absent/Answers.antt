use Rattle.std.proofs.Common.{arith, sym, ◌∙◌, None, IsSome, subst}
use Rattle.vx_flat.proofs.Missing.{there_is, none_is}
use Rattle.vx_flat.proofs.Seeing.{view_inline, part_absent}
use Rattle.vx_flat.proofs.viewing.View.is_absent.Goals as goal

pub place_of-requires-clause-lies : goal.place_of-requires-clause-lies
place_of-requires-clause-lies c = (view_inline c.args.self.now).0

pub place_of-requires-clause-here : goal.place_of-requires-clause-here
place_of-requires-clause-here c = let h = (view_inline c.args.self.now).1 in omega (arith, h)

pub returns-clause-there : goal.returns-clause-there
returns-clause-there c =
    λ h. subst IsSome c.place_of.ensures (there_is c.place_of.result c.is_none.result c.is_none.ensures h)

pub returns-clause-absent : goal.returns-clause-absent
returns-clause-absent c =
    λ h k is p. part_absent c.args.self.now c.args.field k is p None
    (sym (none_is c.place_of.result c.is_none.result c.is_none.ensures h) ∙ c.place_of.ensures)
