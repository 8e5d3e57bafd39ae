-- Where a command can end well and no fault occurs, the status of a run is 0, or 1 for allocation failure.
use Rattle.std.proofs.Common.{◌≡◌, ◌⊎◌, ℕ, List, length, sym, ap, subst, ◌∙◌, arith}
use Rattle.vxcat_store.specs.declared.status.Status.{Status}
use Rattle.vxcat_store.specs.RunState.{HasNoFault, Run}
use Rattle.vxcat_store.specs.Status.{status_number}
use Rattle.vxcat_blobs.specs.ExprCommand.{CanEndExpr, InvokesExpr}
use Rattle.vxcat_blobs.specs.MakeCommand.{InvokesMake, Make}
use Rattle.vxcat_blobs.specs.Recode.{CanEndRecode, InvokesRecode, Recode}
use Rattle.vxcat_blobs.proofs.Laws.{expr_complete, file_same, line_same, make_complete, recode_complete}
use Rattle.vxcat_core.specs.Commands.{CanEnd, Command, Ends, Invokes, recode, expr, make}
use Rattle.vxcat_core.specs.Outcome.{CanRun}

-- Words that invoke a line of `recode` invoke no file of `expr`.
one_command : (words : List (List ℕ)) (line : Recode) (file : List ℕ) → InvokesRecode words line → InvokesExpr words file → ⊥
one_command words line file first second = omega (arith, ap (λ (l : List (List ℕ)). length l) (sym first.words_are ∙ second))

-- Words that invoke a line of `make` invoke none of the others.
not_recode : (words : List (List ℕ)) (line : Recode) (made : Make) → InvokesRecode words line → InvokesMake words made → ⊥
not_recode words line made first second = omega (arith, ap (λ (l : List (List ℕ)). length l) (sym first.words_are ∙ second.words_are))

not_expr : (words : List (List ℕ)) (file : List ℕ) (made : Make) → InvokesExpr words file → InvokesMake words made → ⊥
not_expr words file made first second = omega (arith, ap (λ (l : List (List ℕ)). length l) (sym first ∙ second.words_are))

-- A command that can end well does so, or ends with allocation failure.
pub complete : (words : List (List ℕ)) (status : Status) (command : Command) (run : Run) → CanRun words run.before → HasNoFault run → Invokes words command → Ends status command run
    → (status_number status ≡ 0) ⊎ (status_number status ≡ 1)
complete words status command run can none invoked ends = by_commands can.command can.invoked can.can_end command invoked ends where
  by_commands : (a : Command) → Invokes words a → CanEnd a run.before → (b : Command) → Invokes words b → Ends status b run → (status_number status ≡ 0) ⊎ (status_number status ≡ 1)
  by_commands (recode a) first can_a (recode b) second ends_b =
      recode_complete status b run (subst (λ (l : Recode). CanEndRecode l run.before) (line_same words a b first second) can_a) none ends_b
  by_commands (expr a) first can_a (expr b) second ends_b =
      expr_complete status b run (subst (λ (f : List ℕ). CanEndExpr f run.before) (file_same words a b first second) can_a) none ends_b
  by_commands (recode a) first can_a (expr b) second ends_b = absurd (one_command words a b first second)
  by_commands (expr a) first can_a (recode b) second ends_b = absurd (one_command words b a second first)
  by_commands a first can_a (make b) second ends_b = make_complete status b run none ends_b
  by_commands (make a) first can_a (recode b) second ends_b = absurd (not_recode words b a second first)
  by_commands (make a) first can_a (expr b) second ends_b = absurd (not_expr words b a second first)
