use Rattle.std.proofs.Common.{◌≡◌, ◌⊎◌, [], List, length, IfOk, IfErr, sym, subst}
use Rattle.vx_trees.specs.Rose.{roses_of}
use Rattle.vx_fn_wire.specs.Expr.{Expr, AreExprs}
use Rattle.vx_fn_wire.specs.ReadsExpr.{IsNodeOf, RefusesCall}
use Rattle.vx_fn_wire.specs.Seen.{expr}
use Rattle.vx_fn_wire.specs.Session.{scalars_meaning}
use Rattle.vx_fn_wire.specs.contracts.expression_reading.expression_of.{dyn-1-ghosts}
use Rattle.vx_fn_wire.specs.declared.error.FnWireError.TheVariants.{OutOfMemory}
use Rattle.vx_fn_wire.proofs.ReadExprs.{default_read, default_unread}
use Rattle.vx_fn_wire.proofs.expression_reading.expression_of.Goals as goal

pub returns-in-None-clause-read : goal.returns-in-None-clause-read
returns-in-None-clause-read g c =
    let registry = scalars_meaning (λ b. ((dyn-1-ghosts g.dyn-1).0.entry b.vtable).1.scalar_of b.value) c.args.session.now in
    default_read registry c.args.unknown c.args.message.now c.node_of.result c.in-None.ensures.value
    (subst (λ (ts : List Expr). IfOk c.node_of.result (λ e. IsNodeOf registry c.args.unknown [] [] (roses_of ts) (expr e))) c.new.ensures c.node_of.ensures.given)
    (c.node_of.ensures.formed (subst AreExprs (sym c.new.ensures) tt))

pub returns-in-None-clause-cause : goal.returns-in-None-clause-cause
returns-in-None-clause-cause g c =
    let registry = scalars_meaning (λ b. ((dyn-1-ghosts g.dyn-1).0.entry b.vtable).1.scalar_of b.value) c.args.session.now in
    default_unread registry c.args.unknown c.args.message.now c.node_of.result c.in-None.ensures.value
    (subst (λ (ts : List Expr). IfErr c.node_of.result (λ e. (e ≡ OutOfMemory) ⊎ RefusesCall registry c.args.unknown e [] [] (length ts))) c.new.ensures c.node_of.ensures.cause)
