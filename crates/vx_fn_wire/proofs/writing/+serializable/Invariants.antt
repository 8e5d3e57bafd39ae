use Rattle.std.proofs.Common.{take}
use Rattle.vx_trees.specs.Rose.{roses_of}
use Rattle.vx_fn_wire.specs.Messages.{AreSerializable}
use Rattle.vx_fn_wire.specs.Parts.{expr_size, slice_size}
use Rattle.vx_fn_wire.specs.Seen.{expr, exprs}
use Rattle.vx_fn_wire.proofs.writing.+serializable.Given as goal

abbrev pub decreases-is_serializable : goal.decreases-is_serializable
decreases-is_serializable l = expr_size (expr l.expression.now)

abbrev pub decreases-are_serializable : goal.decreases-are_serializable
decreases-are_serializable l = slice_size (exprs l.expressions.now)

abbrev pub invariant-are_serializable-loop-expression : goal.invariant-are_serializable-loop-expression
invariant-are_serializable-loop-expression l = AreSerializable (roses_of (exprs (take l.expression-index l.expressions)))
