-- What contracts see of the parts of expressions.
use Rattle.std.specs.Prelude.{ℕ, List, ◌+◌, ◌*◌, refl}
use Rattle.std.specs.Coded.{Coded, code_by, coded×, coded_list}
use Rattle.vx_trees.specs.Rose.{roses_of}
use Rattle.vx_trees.specs.Walks.{nodes, nodes_of}
use Rattle.vx_fn_wire.specs.Expr.{Expr, expr_code}
use Rattle.vx_fn_wire.specs.declared.scalar_fn.ScalarFn.{ScalarFn}
use Rattle.vx_fn_wire.specs.contracts.scalar_fn.ScalarFn as scalar_fn

-- A call: the function, and its arguments.
pub record CallParts : Type 0 where
  pub function : ScalarFn
  pub children : List Expr

abbrev pub call_code : Coded CallParts
call_code = code_by (ScalarFn × List Expr) (coded× scalar_fn.the_row.coded (coded_list expr_code)) (λ c. (c.function, c.children)) (λ p. record { function = p.0; children = p.1 }) (λ _. refl)

-- Sizes for recursions: four times the nodes, so that each part lies between an expression and those within it.
abbrev pub expr_size : Expr → ℕ
expr_size e = 4 * nodes e

abbrev pub slice_size : List Expr → ℕ
slice_size es = 4 * nodes_of (roses_of es) + 1

abbrev pub exprs_size : List Expr → ℕ
exprs_size es = 4 * nodes_of (roses_of es) + 2

abbrev pub call_size : CallParts → ℕ
call_size c = 4 * nodes_of (roses_of c.children) + 3
