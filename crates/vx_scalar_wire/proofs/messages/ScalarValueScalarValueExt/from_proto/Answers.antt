use Rattle.std.proofs.Common.{◌≡◌, ◌<◌, [], ◌∷◌, rules, arith, inl, sym, subst}
use Rattle.vx_proto.specs.Value.{Value, value_view}
use Rattle.vx_proto.specs.Written.{nested}
use Rattle.vx_types.specs.Seen.{typ}
use Rattle.vx_scalar_wire.specs.declared.error.ScalarWireError.TheVariants.{MissingKind}
use Rattle.vx_scalar_wire.proofs.Calls.{never_deep}
use Rattle.vx_scalar_wire.proofs.Complete.{only_memory, value_complete}
use Rattle.vx_scalar_wire.proofs.Refused.{refused_here}
use Rattle.vx_scalar_wire.proofs.messages.ScalarValueScalarValueExt.from_proto.Goals as goal

pub returns-in_default-clause-complete : goal.returns-in_default-clause-complete
returns-in_default-clause-complete g c = λ v n r.
    only_memory MissingKind _ v (typ c.args.dtype.now) c.args.message.now c.is_within.ensures.is_type n r
    (refused_here MissingKind _ 100 (typ c.args.dtype.now) c.args.message.now (inl c.in_default.ensures.value))

pub returns-clause-complete : goal.returns-clause-complete
returns-clause-complete g c = λ v n r.
    value_complete c.read_value.result _ (typ c.args.dtype.now) c.args.message.now c.is_within.ensures.is_type (search rules) (search rules) v n r

pub returns-in_default-clause-deep : goal.returns-in_default-clause-deep
returns-in_default-clause-deep g c = λ h. absurd (never_deep c.args.message.now ([] ∷ []) (sym c.in_default.ensures.value) (omega arith) h)

pub returns-then-not-nests_within-clause-cause : goal.returns-then-not-nests_within-clause-cause
returns-then-not-nests_within-clause-cause g c = subst (λ (v : Value). 100 < nested v) c.in-Some.ensures.value (c.nests_within.ensures.beyond c.if-not-nests_within.true)

pub returns-then-not-nests_within-clause-complete : goal.returns-then-not-nests_within-clause-complete
returns-then-not-nests_within-clause-complete g c = λ v n r.
    absurd (never_deep (value_view c.in-Some.slots.now) c.args.message.now (sym c.in-Some.ensures.value) n (c.nests_within.ensures.beyond c.if-not-nests_within.true))

pub returns-clause-deep : goal.returns-clause-deep
returns-clause-deep g c = λ h.
    absurd (never_deep c.args.message.now (value_view c.in-Some.slots.now) c.in-Some.ensures.value (c.nests_within.ensures.within c.if-not-nests_within.false) h)
