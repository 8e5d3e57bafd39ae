use Rattle.std.proofs.Common.{◌≡◌, ◌<◌, refl, ap, sym, subst, ◌∙◌}
use Rattle.std.proofs.lemmas.Result.{err_from_is_err_and}
use Rattle.vx_trees.proofs.LawsOfResults.{at_error, at_match}
use Rattle.vx_proto.specs.Value.{Value, value_view}
use Rattle.vx_proto.specs.Written.{nested}
use Rattle.vx_types.specs.Seen.{typ}
use Rattle.vx_types.specs.declared.dtype.DType.{DType}
use Rattle.vx_type_wire.specs.declared.error.TypeWireError.TheVariants.{OutOfMemory}
use Rattle.vx_type_wire.specs.Known.{IsKnown}
use Rattle.vx_type_wire.specs.MessageReading.{type_in}
use Rattle.vx_type_wire.specs.Session.{ext_meaning}
use Rattle.vx_type_wire.specs.TypeMessage.{RefusesReadingType}
use Rattle.vx_type_wire.proofs.OneType.{known_or}
use Rattle.vx_type_wire.proofs.MessageFound.{default_flat, never_deep, no_default, reads_message, shows_message, only_memory, unread_value, unknown_value, the_type, too_deep}
use Rattle.vx_type_wire.proofs.messages.DTypeDTypeExt.from_proto.Goals as goal

pub returns-in_default-clause-cause : goal.returns-in_default-clause-cause
returns-in_default-clause-cause g c = no_default c.args.message.now c.in_default.ensures.value

pub returns-in_default-clause-complete : goal.returns-in_default-clause-complete
returns-in_default-clause-complete g c = λ t le r. absurd (no_default c.args.message.now c.in_default.ensures.value t r.shows)

pub returns-in_default-clause-deep : goal.returns-in_default-clause-deep
returns-in_default-clause-deep g c = λ h. absurd (never_deep c.args.message.now c.args.message.now refl (default_flat c.args.message.now c.in_default.ensures.value) h)

pub returns-then-not-nests_within-clause-cause : goal.returns-then-not-nests_within-clause-cause
returns-then-not-nests_within-clause-cause g c = subst (λ (v : Value). 100 < nested v) c.in-Some.ensures.value (c.nests_within.ensures.beyond c.if-not-nests_within.true)

pub returns-then-not-nests_within-clause-complete : goal.returns-then-not-nests_within-clause-complete
returns-then-not-nests_within-clause-complete g c = λ t le r.
    absurd (too_deep t c.args.message.now le r.shows (subst (λ (v : Value). 100 < nested v) c.in-Some.ensures.value (c.nests_within.ensures.beyond c.if-not-nests_within.true)))

pub returns-in_err-found-clause-deep : goal.returns-in_err-found-clause-deep
returns-in_err-found-clause-deep g c = λ h.
    absurd (never_deep c.args.message.now (value_view c.in-Some.slots.now) c.in-Some.ensures.value (c.nests_within.ensures.within c.if-not-nests_within.false) h)

pub returns-in_err-judge-clause-deep : goal.returns-in_err-judge-clause-deep
returns-in_err-judge-clause-deep g c = λ h.
    absurd (never_deep c.args.message.now (value_view c.in-Some.slots.now) c.in-Some.ensures.value (c.nests_within.ensures.within c.if-not-nests_within.false) h)

pub returns-clause-deep : goal.returns-clause-deep
returns-clause-deep g c = λ h.
    absurd (never_deep c.args.message.now (value_view c.in-Some.slots.now) c.in-Some.ensures.value (c.nests_within.ensures.within c.if-not-nests_within.false) h)

pub returns-in_err-found-clause-cause : goal.returns-in_err-found-clause-cause
returns-in_err-found-clause-cause g c =
    let p = err_from_is_err_and c.from_residual.result c.from_residual.ensures.1 in
    let s = ext_meaning (λ b. (goal.ExtPlugin-dyn g (b.vtable, b.value)).accepted b.value) c.args.readers.now in
    let e = c.in_err-found.field-0.0 in
    at_error c.from_residual.result p.0 e (λ x. RefusesReadingType x s c.args.message.now) p.1 p.2
    (unread_value e s c.args.message.now (value_view c.in-Some.slots.now) c.in-Some.ensures.value (c.nests_within.ensures.within c.if-not-nests_within.false) c.in_err-found.ensures)

pub returns-in_err-found-clause-complete : goal.returns-in_err-found-clause-complete
returns-in_err-found-clause-complete g c = λ t le r.
    let p = err_from_is_err_and c.from_residual.result c.from_residual.ensures.1 in
    let e = c.in_err-found.field-0.0 in
    at_match c.from_residual.result p.0 e (λ (d : DType). typ d ≡ t) (λ x. x ≡ OutOfMemory) p.1 p.2
    (only_memory e (type_in 50 (value_view c.in-Some.slots.now)) t (ap (type_in 50) c.in-Some.ensures.value ∙ reads_message c.args.message.now t le r.shows) c.in_err-found.ensures)

pub returns-in_err-judge-clause-cause : goal.returns-in_err-judge-clause-cause
returns-in_err-judge-clause-cause g c =
    let p = err_from_is_err_and c.from_residual-in_err-judge.result c.from_residual-in_err-judge.ensures.1 in
    let s = ext_meaning (λ b. (goal.ExtPlugin-dyn g (b.vtable, b.value)).accepted b.value) c.args.readers.now in
    let e = c.in_err-judge.field-0.0 in
    let m = c.args.message.now in
    let t = typ c.in_ok-found.found in
    at_error c.from_residual-in_err-judge.result p.0 e (λ x. RefusesReadingType x s m) p.1 p.2
    (unknown_value e s m t (shows_message m (value_view c.in-Some.slots.now) t c.in-Some.ensures.form c.in-Some.ensures.value c.in_ok-found.ensures c.in_err-judge.ensures.is_type) c.in_err-judge.ensures.cause)

pub returns-in_err-judge-clause-complete : goal.returns-in_err-judge-clause-complete
returns-in_err-judge-clause-complete g c = λ t le r.
    let s = ext_meaning (λ b. (goal.ExtPlugin-dyn g (b.vtable, b.value)).accepted b.value) c.args.readers.now in
    let d = typ c.in_ok-found.found in
    let same = the_type c.args.message.now (value_view c.in-Some.slots.now) d t c.in-Some.ensures.value c.in_ok-found.ensures le r.shows in
    absurd (known_or c.in_err-judge.field-0.0 s d c.in_err-judge.ensures.cause (subst (λ x. IsKnown s x) (sym same) r.known))

pub returns-clause-read : goal.returns-clause-read
returns-clause-read g c =
    let d = typ c.in_ok-found.found in
    record {
      shows = shows_message c.args.message.now (value_view c.in-Some.slots.now) d c.in-Some.ensures.form c.in-Some.ensures.value c.in_ok-found.ensures c.in_ok-judge.ensures.is_type;
      known = c.in_ok-judge.ensures.known;
    }

pub returns-clause-complete : goal.returns-clause-complete
returns-clause-complete g c = λ t le r. the_type c.args.message.now (value_view c.in-Some.slots.now) (typ c.in_ok-found.found) t c.in-Some.ensures.value c.in_ok-found.ensures le r.shows
