use Rattle.std.proofs.Common.{◌⊎◌, IfOk, inr, ◌≡◌, true, false, length, refl, ap, sym, subst, ◌∙◌}
use Rattle.std.proofs.lemmas.Result.{err_from_is_err_and}
use Rattle.vx_fn_wire.specs.Arity.{Admits}
use Rattle.vx_fn_wire.specs.Seen.{expr}
use Rattle.vx_fn_wire.specs.ReadsExpr.{RefusesCall}
use Rattle.vx_fn_wire.specs.Session.{scalars_meaning}
use Rattle.vx_fn_wire.specs.contracts.expression_reading.node_of.{dyn-1-ghosts}
use Rattle.vx_fn_wire.specs.declared.arity.Arity.{Arity}
use Rattle.vx_fn_wire.specs.declared.error.FnWireError.TheVariants.{OutOfMemory}
use Rattle.vx_fn_wire.specs.declared.scalar_fn.ScalarFn.{ScalarFn}
use Rattle.vx_fn_wire.proofs.Lists.{call_formed}
use Rattle.vx_trees.proofs.LawsOfResults.{at_error}
use Rattle.vx_fn_wire.proofs.ReadNodes.{no_function, not_admitted, call_node}
use Rattle.vx_fn_wire.proofs.expression_reading.node_of.Goals as goal

pub returns-in_err-function-clause-cause : goal.returns-in_err-function-clause-cause
returns-in_err-function-clause-cause g c =
    let named : c.in_ok-id.id ≡ c.args.id.now = subst (λ r. IfOk r (λ i. i ≡ c.args.id.now)) c.in_ok-id.ensures.same c.new.ensures.ok in
    let p = err_from_is_err_and c.from_residual-in_err-function.result c.from_residual-in_err-function.ensures.1 in
    let registry = scalars_meaning (λ b. ((dyn-1-ghosts g.dyn-1).0.entry b.vtable).1.scalar_of b.value) c.args.session.now in
    let n = length c.args.children in
    at_error c.from_residual-in_err-function.result p.0 c.in_err-function.field-0.0 (λ e. (e ≡ OutOfMemory) ⊎ RefusesCall registry c.args.unknown e c.args.id.now c.args.metadata.now n) p.1 p.2
    (no_function registry c.args.unknown c.in_err-function.field-0.0 c.args.id.now c.in_ok-id.id c.args.metadata.now n named c.if-eq.ensures c.in_err-function.ensures.cause)

pub returns-then-not-admits-clause-cause : goal.returns-then-not-admits-clause-cause
returns-then-not-admits-clause-cause g c =
    let named : c.in_ok-id.id ≡ c.args.id.now = subst (λ r. IfOk r (λ i. i ≡ c.args.id.now)) c.in_ok-id.ensures.same c.new.ensures.ok in
    let same : c.arity.result ≡ c.in_ok-function.function.arity = c.arity.ensures ∙ ap (λ (f : ScalarFn). f.arity) c.signature.ensures.function in
    let registry = scalars_meaning (λ b. ((dyn-1-ghosts g.dyn-1).0.entry b.vtable).1.scalar_of b.value) c.args.session.now in
    inr (not_admitted registry c.args.unknown c.args.id.now c.in_ok-id.id c.args.metadata.now (length c.args.children) c.len.result c.in_ok-function.function named c.if-eq.ensures c.len.ensures c.in_ok-function.ensures.given
    (λ a. absurd (let e : false ≡ true = c.if-not-admits.ensures.1 (subst (Admits c.arity.result) (sym c.len-2.ensures) (subst (λ (r : Arity). Admits r (length c.args.children)) (sym same) a)) in cc)))

pub returns-clause-given : goal.returns-clause-given
returns-clause-given g c =
    let named : c.in_ok-id.id ≡ c.args.id.now = subst (λ r. IfOk r (λ i. i ≡ c.args.id.now)) c.in_ok-id.ensures.same c.new.ensures.ok in
    let registry = scalars_meaning (λ b. ((dyn-1-ghosts g.dyn-1).0.entry b.vtable).1.scalar_of b.value) c.args.session.now in
    call_node registry c.args.unknown c.args.id.now c.in_ok-id.id c.args.metadata.now c.args.children c.len.result c.in_ok-function.function (expr c.call.result) named c.if-eq.ensures c.len.ensures c.in_ok-function.ensures.given c.call.ensures

pub returns-clause-formed : goal.returns-clause-formed
returns-clause-formed g c = λ below.
    let f = c.in_ok-function.function in
    let same : c.arity.result ≡ f.arity = c.arity.ensures ∙ ap (λ (k : ScalarFn). k.arity) c.signature.ensures.function in
    call_formed (expr c.call.result) f c.args.children c.call.ensures
    (subst (λ (r : Arity). Admits r (length c.args.children)) same (subst (Admits c.arity.result) c.len-2.ensures (c.if-not-admits.ensures.0 refl))) c.signature.ensures.text below
