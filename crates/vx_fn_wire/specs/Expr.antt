-- Expressions as trees: calls of functions, over the root or over other expressions.
use Rattle.std.specs.Prelude.{◌≡◌, ◌⊎◌, List, refl}
use Rattle.std.specs.Coded.{Coded, code_by, coded⊎}
use mathlib.Core.Logic.{inl, inr}
use base.Stored.{coded_unit}
use Rattle.vx_trees.specs.Rose.{Rose, Roses, count, roses_of}
use Rattle.vx_trees.specs.Everywhere.{Everywhere, EverywhereBelow}
use Rattle.vx_trees.specs.Codes.{coded_rose}
use Rattle.vx_types.specs.Content.{IsText}
use Rattle.vx_fn_wire.specs.Arity.{Admits}
use Rattle.vx_fn_wire.specs.declared.scalar_fn.ScalarFn.{ScalarFn}
use Rattle.vx_fn_wire.specs.contracts.scalar_fn.ScalarFn as scalar_fn

-- What stands at a node: the root, which is what an expression is evaluated on, or a call of a function.
pub data Head : Type 0 where
  root : Head
  call : ScalarFn → Head

-- An expression is a tree: a call over its children, in order.
abbrev pub Expr : Type 0
Expr = Rose Head

-- A head is stored as its function, if it has one.
abbrev stored : Head → Unit {0} ⊎ ScalarFn
stored root = inl tt
stored (call f) = inr f

abbrev restored : Unit {0} ⊎ ScalarFn → Head
restored (inl _) = root
restored (inr f) = call f

pub restored-stored : (h : Head) → restored (stored h) ≡ h
restored-stored root = refl
restored-stored (call f) = refl

abbrev pub head_code : Coded Head
head_code = code_by (Unit {0} ⊎ ScalarFn) (coded⊎ coded_unit scalar_fn.the_row.coded) stored restored restored-stored

-- The code by which expressions are compared.
abbrev pub expr_code : Coded Expr
expr_code = coded_rose root head_code

-- The root has no children, and a call has as many as its function's arity admits. An identifier is a text.
abbrev pub IsExprNode : Head → Roses Head → Type 0
IsExprNode root ts = count ts ≡ 0
IsExprNode (call f) ts = Admits f.arity (count ts) × IsText f.id

-- A tree of heads is an expression if this holds at each of its nodes.
abbrev pub IsExpr : Expr → Type 0
IsExpr = Everywhere IsExprNode

-- Each of a list of trees is an expression.
abbrev pub AreExprs : List Expr → Type 0
AreExprs ts = EverywhereBelow IsExprNode (roses_of ts)
