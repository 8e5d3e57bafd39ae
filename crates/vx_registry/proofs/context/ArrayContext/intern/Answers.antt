use Rattle.std.proofs.Common.{sym, ◌∙◌}
use Rattle.vx_registry.specs.contracts.context.ArrayContext.{the_view}
use Rattle.vx_registry.proofs.Interning.{found_in}
use Rattle.vx_registry.proofs.context.ArrayContext.intern.Goals as goal

pub returns-in-Some-clause-interned : goal.returns-in-Some-clause-interned
returns-in-Some-clause-interned c =
    (found_in (the_view c.self.inside) c.args.self.now c.args.id.now c.in-Some.index c.place.result c.self.view_is (sym c.is_allowed.ensures ∙ c.if-not-is_allowed.false) (sym c.in-Some.ensures.index) (sym c.in-Some.ensures.found)
    c.place.ensures.some c.place.ensures.small c.place.ensures.none).interned_is

pub returns-in-Some-clause-place : goal.returns-in-Some-clause-place
returns-in-Some-clause-place c =
    (found_in (the_view c.self.inside) c.args.self.now c.args.id.now c.in-Some.index c.place.result c.self.view_is (sym c.is_allowed.ensures ∙ c.if-not-is_allowed.false) (sym c.in-Some.ensures.index) (sym c.in-Some.ensures.found)
    c.place.ensures.some c.place.ensures.small c.place.ensures.none).place_is

pub returns-in-Some-clause-refused : goal.returns-in-Some-clause-refused
returns-in-Some-clause-refused c =
    (found_in (the_view c.self.inside) c.args.self.now c.args.id.now c.in-Some.index c.place.result c.self.view_is (sym c.is_allowed.ensures ∙ c.if-not-is_allowed.false) (sym c.in-Some.ensures.index) (sym c.in-Some.ensures.found)
    c.place.ensures.some c.place.ensures.small c.place.ensures.none).refused
