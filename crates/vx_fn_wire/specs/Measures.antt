-- Each part of an expression is smaller than the expression: the measure of recursions.
use Rattle.std.specs.Prelude.{◌+◌, ◌*◌, ◌≤◌, List, [], ◌∷◌, max}
use Rattle.std.proofs.Common.{arith}
use Rattle.vx_trees.specs.Rose.{roses_of}
use Rattle.vx_trees.specs.Walks.{nodes_of}
use Rattle.vx_fn_wire.specs.Parts.{expr_size}
use Rattle.vx_fn_wire.specs.Seen.{expr, exprs}
use Rattle.vx_fn_wire.specs.declared.expression.Expression.{Expression}
use Rattle.vx_fn_wire.specs.declared.expression.Expression.TheVariants.{Root, Call}
use Rattle.vx_fn_wire.specs.declared.call.Call.TheDeep.{deep-Expression}
use denote.Param.Weighed.{most}

pub deep_le-size : (e : Expression) → max (deep-Expression e) 0 ≤ expr_size (expr e)
deep_le-size Root = omega arith
deep_le-size (Call c) = omega arith

pub most_le-size : (es : List Expression) → most (λ e. deep-Expression e) es ≤ 4 * nodes_of (roses_of (exprs es)) + 1
most_le-size [] = omega arith
most_le-size (e ∷ es) = omega (arith, most_le-size es, deep_le-size e)
