-- The command `expr`: its words, what it loads, reads and prints, and how it ends.
use Rattle.std.specs.Prelude.{◌≡◌, ℕ, true, IsTrue, None, List, [], ◌∷◌, ◌++◌, codes}
use Rattle.hex.specs.Hex.{encode_lower}
use Rattle.vx_proto.specs.Written.{written}
use Rattle.vx_fn_wire.specs.Expr.{Expr}
use Rattle.vx_fn_wire.specs.ExprText.{expr_text}
use Rattle.vx_fn_wire.specs.Messages.{expr_message}
use Rattle.vx_fn_wire.specs.ReadsExpr.{ReadsExprBytes}
use Rattle.vx_fn_wire.specs.Schema.{expr_lists}
use Rattle.vx_fn_wire.specs.Session.{Registry}
use Rattle.vx_fn_wire.specs.declared.scalar_fn.ScalarFn.{ScalarFn}
use Rattle.vxcat_store.specs.declared.status.Status.{Status}
use Rattle.vxcat_store.specs.declared.status.Status.TheVariants.{Done, OutOfMemory, LoadFault, WriteFault, BadExpression}
use Rattle.vxcat_store.specs.RunState.{IsUntouched, Prints, PrintsPrefix, Run}
use Rattle.vxcat_store.specs.StoreState.{AskedOnly, HasRisen, Stands, StoreState}

-- The words are `expr FILE`.
abbrev pub InvokesExpr : List (List ℕ) → List ℕ → Type 0
InvokesExpr words file = words ≡ codes "expr" ∷ file ∷ []

-- No function is registered.
abbrev pub no_functions : Registry ScalarFn
no_functions = λ id. None

-- Bytes are read as an expression in this registry, where unknown functions are allowed.
abbrev pub IsReadAsExpression : List ℕ → Expr → Type 0
IsReadAsExpression bytes e = ReadsExprBytes no_functions true bytes e

-- The text of an expression, and bytes as hex digits, two for each, each on a line.
abbrev pub two_lines : Expr → List ℕ → List ℕ
two_lines e bytes = expr_text e ++ (codes "\n" ++ (encode_lower bytes ++ codes "\n"))

-- The lines of an expression have its text, and the bytes as which its message is written, whatever bytes it was read
-- from.
abbrev pub lines_of : Expr → List ℕ
lines_of e = two_lines e (written expr_lists 0 (expr_message e))

-- Why bytes have no lines: they are read as no expression. Allocation failure needs no cause.
abbrev pub RefusesExpr : Status → List ℕ → Type 0
RefusesExpr OutOfMemory bytes = Unit {0}
RefusesExpr BadExpression bytes = (e : Expr) → ¬ (IsReadAsExpression bytes e)
RefusesExpr status bytes = ⊥

-- It came to its lines: nothing is saved, and of the lines there was printed what the argument says.
pub record EndsPrintingExpr (file : List ℕ) (run : Run) (IsPrinted : Run → List ℕ → Type 0) : Type 0 where
  pub bytes : List ℕ
  pub expr : Expr
  pub stands : Stands run.before file bytes
  pub read : IsReadAsExpression bytes expr
  pub told : run.after.tells ≡ run.before.tells
  pub files : run.after.file ≡ run.before.file
  pub printed : IsPrinted run (lines_of expr)

-- It was refused by what it loaded, which is read as no expression.
pub record EndsUnread (file : List ℕ) (run : Run) : Type 0 where
  pub bytes : List ℕ
  pub stands : Stands run.before file bytes
  pub none : (e : Expr) → ¬ (IsReadAsExpression bytes e)
  pub untouched : IsUntouched run

-- How it ends, by its status. 0: the two lines are printed. 1: nothing is printed. 3: the count of load faults rose, only
-- the file was asked for, and nothing is printed. 5: the count of the sink's faults rose, and a prefix of the lines is
-- printed. 8: the file is read as no expression, and nothing is printed. Nothing is ever saved, and there is no other end.
abbrev pub EndsExpr : Status → List ℕ → Run → Type 0
EndsExpr Done file run = EndsPrintingExpr file run Prints
EndsExpr OutOfMemory file run = IsUntouched run
EndsExpr LoadFault file run =
    HasRisen run.before.load_faults run.after.load_faults × AskedOnly (file ∷ []) run.before.asked run.after.asked × IsUntouched run
EndsExpr WriteFault file run = HasRisen run.out_before.faults run.out_after.faults × EndsPrintingExpr file run PrintsPrefix
EndsExpr BadExpression file run = EndsUnread file run
EndsExpr status file run = ⊥

-- It can end well: the store tells its files, and the file is read as an expression.
pub record CanEndExpr (file : List ℕ) (before : StoreState) : Type 0 where
  pub tells : IsTrue before.tells
  pub bytes : List ℕ
  pub expr : Expr
  pub stands : Stands before file bytes
  pub read : IsReadAsExpression bytes expr
