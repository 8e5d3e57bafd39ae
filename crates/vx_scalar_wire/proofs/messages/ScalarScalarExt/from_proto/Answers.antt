use Rattle.std.proofs.Common.{◌≡◌, ◌<◌, [], ◌∷◌, rules, arith, sym, subst}
use Rattle.vx_proto.specs.Value.{Value, value_view}
use Rattle.vx_proto.specs.Written.{nested}
use Rattle.vx_scalar_wire.proofs.Calls.{never_deep, scalar_message}
use Rattle.vx_scalar_wire.proofs.Complete.{scalar_complete}
use Rattle.vx_scalar_wire.proofs.messages.ScalarScalarExt.from_proto.Goals as goal

pub returns-clause-complete : goal.returns-clause-complete
returns-clause-complete g c = λ x n r. scalar_complete c.read_scalar.result _ c.args.message.now (search rules) (search rules) x n r

pub returns-clause-cause : goal.returns-clause-cause
returns-clause-cause g c = scalar_message c.read_scalar.result _ c.args.message.now (search rules)

pub returns-in_default-clause-deep : goal.returns-in_default-clause-deep
returns-in_default-clause-deep g c = λ h. absurd (never_deep c.args.message.now ([] ∷ [] ∷ []) (sym c.in_default.ensures.value) (omega arith) h)

pub returns-then-not-nests_within-clause-cause : goal.returns-then-not-nests_within-clause-cause
returns-then-not-nests_within-clause-cause g c = subst (λ (v : Value). 100 < nested v) c.in-Some.ensures.value (c.nests_within.ensures.beyond c.if-not-nests_within.true)

pub returns-then-not-nests_within-clause-complete : goal.returns-then-not-nests_within-clause-complete
returns-then-not-nests_within-clause-complete g c = λ x n r.
    absurd (never_deep (value_view c.in-Some.slots.now) c.args.message.now (sym c.in-Some.ensures.value) n (c.nests_within.ensures.beyond c.if-not-nests_within.true))

pub returns-clause-deep : goal.returns-clause-deep
returns-clause-deep g c = λ h.
    absurd (never_deep c.args.message.now (value_view c.in-Some.slots.now) c.in-Some.ensures.value (c.nests_within.ensures.within c.if-not-nests_within.false) h)
