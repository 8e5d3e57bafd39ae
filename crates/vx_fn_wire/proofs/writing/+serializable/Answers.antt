use Rattle.std.proofs.Common.{refl}
use Rattle.vx_fn_wire.specs.Messages.{CanWrite}
use Rattle.vx_fn_wire.proofs.Lists.{serializable_at, every_more}
use Rattle.vx_fn_wire.proofs.writing.+serializable.Goals as goal

pub are_serializable-returns-then-not-is_serializable : goal.are_serializable-returns-then-not-is_serializable
are_serializable-returns-then-not-is_serializable t c =
    (λ h. absurd (cc), λ all. c.if-not-is_serializable.ensures.1 (serializable_at _ _ _ c.loop-expression-test.true c.expression-item.is all))

pub are_serializable-loop-expression-preserved : goal.are_serializable-loop-expression-preserved
are_serializable-loop-expression-preserved t c =
    every_more CanWrite _ _ _ c.loop-expression-test.true c.expression-item.is c.loop-expression.invariant (c.if-not-is_serializable.ensures.0 refl)
