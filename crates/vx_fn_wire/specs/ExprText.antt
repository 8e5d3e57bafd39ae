-- The texts of expressions.
use Rattle.std.specs.Prelude.{ℕ, List, [], ◌++◌, codes}
use Rattle.vx_trees.specs.Rose.{Roses, node, end, more}
use Rattle.vx_fn_wire.specs.Expr.{Head, root, call, Expr}

abbrev mutual
  -- `root`; or the identifier, and the children in parentheses with a comma and a space between them.
  pub expr_text : Expr → List ℕ
  expr_text (node root ts) = codes "root"
  expr_text (node (call f) ts) = f.id ++ (codes "(" ++ (children_text ts ++ codes ")"))

  -- The children as they are printed in the parentheses.
  pub children_text : Roses Head → List ℕ
  children_text end = []
  children_text (more t ts) = expr_text t ++ more_text ts

  -- The children after the first, each after a comma and a space.
  pub more_text : Roses Head → List ℕ
  more_text end = []
  more_text (more t ts) = codes ", " ++ (expr_text t ++ more_text ts)
