-- A declared expression as the tree that contracts see.
use Rattle.std.specs.Prelude.{List, map}
use Rattle.vx_trees.specs.Rose.{node, end, roses_of}
use Rattle.vx_fn_wire.specs.Expr.{Expr, root, call}
use Rattle.vx_fn_wire.specs.declared.expression.Expression.{Expression}
use Rattle.vx_fn_wire.specs.declared.expression.Expression.TheVariants.{Root, Call}

-- One level: what stands at the node, over the children.
abbrev pub expr : Expression → Expr
expr Root = node root end
expr (Call c) = node (call c.function) (roses_of c.children)

-- A list of expressions, each as its tree.
abbrev pub exprs : List Expression → List Expr
exprs es = map expr es
