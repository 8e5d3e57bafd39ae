use Rattle.std.proofs.Common.{take}
use Rattle.std.specs.Fmt.{HasWritten, IsPlainFormatter}
use Rattle.vx_trees.specs.Rose.{roses_of}
use Rattle.vx_fn_wire.specs.ExprText.{more_text}
use Rattle.vx_fn_wire.specs.Parts.{expr_size}
use Rattle.vx_fn_wire.specs.Seen.{expr, exprs}
use Rattle.vx_fn_wire.proofs.expression.ExpressionDisplay.+fmt.Given as goal

abbrev pub decreases-fmt : goal.decreases-fmt
decreases-fmt g l = expr_size (expr l.self.now)

abbrev pub invariant-loop-child : goal.invariant-loop-child
invariant-loop-child g l =
    IsPlainFormatter l.initial.f → HasWritten g.W.Write.write_str_gives l.initial.f (more_text (roses_of (exprs (take l.child-index l.rest)))) l.f
