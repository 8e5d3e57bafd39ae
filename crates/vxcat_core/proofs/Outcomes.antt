-- From how each command ends to the run's outcome.
use Rattle.std.proofs.Common.{◌≡◌, ℕ, List, refl}
use Rattle.vxcat_store.specs.declared.status.Status.{Status}
use Rattle.vxcat_store.specs.declared.status.Status.TheVariants.{Done, OutOfMemory, NoCommand, LoadFault, SaveFault, WriteFault, BadType, BadIds, BadExpression, Refused}
use Rattle.vxcat_store.specs.RunState.{Run}
use Rattle.vxcat_store.specs.Status.{status_number}
use Rattle.vxcat_blobs.specs.ExprCommand.{InvokesExpr}
use Rattle.vxcat_blobs.specs.MakeCommand.{InvokesMake, Make}
use Rattle.vxcat_blobs.specs.Recode.{InvokesRecode, Recode}
use Rattle.vxcat_blobs.proofs.Laws.{expr_not_two, make_not_two, recode_not_two}
use Rattle.vxcat_core.specs.Commands.{Command, Ends, Invokes, recode, expr, make}
use Rattle.vxcat_core.specs.Outcome.{HasOutcome, Outcome}

-- A command that was run does not end with the status of no command.
pub ends_not_two : (status : Status) (command : Command) (run : Run) → Ends status command run → status_number status ≡ 2 → ⊥
ends_not_two status (recode line) run ends is = recode_not_two status line run ends is
ends_not_two status (expr file) run ends is = expr_not_two status file run ends is
ends_not_two status (make line) run ends is = make_not_two status line run ends is

-- How a command ends is an outcome, whichever command it is.
outcome : (status : Status) (words : List (List ℕ)) (command : Command) (run : Run) → Invokes words command → Ends status command run → Outcome status words run
outcome NoCommand words command run invoked ends = absurd (ends_not_two NoCommand command run ends refl)
outcome Done words command run invoked ends = (command, invoked, ends)
outcome OutOfMemory words command run invoked ends = (command, invoked, ends)
outcome LoadFault words command run invoked ends = (command, invoked, ends)
outcome SaveFault words command run invoked ends = (command, invoked, ends)
outcome WriteFault words command run invoked ends = (command, invoked, ends)
outcome BadType words command run invoked ends = (command, invoked, ends)
outcome BadIds words command run invoked ends = (command, invoked, ends)
outcome BadExpression words command run invoked ends = (command, invoked, ends)
outcome (Refused r) words command run invoked ends = (command, invoked, ends)

-- How a command ends is the run's outcome, by the number of its status.
pub has_outcome : (number : ℕ) (status : Status) (words : List (List ℕ)) (command : Command) (run : Run) → number ≡ status_number status → Invokes words command → Ends status command run → HasOutcome number words run
has_outcome number status words command run is invoked ends = record { status = status; number_is = is; outcome = outcome status words command run invoked ends }

-- Words that invoke no line of any command invoke none.
pub no_command : (words : List (List ℕ)) → ((line : Recode) → ¬ (InvokesRecode words line)) → ((file : List ℕ) → ¬ (InvokesExpr words file)) → ((line : Make) → ¬ (InvokesMake words line))
    → (command : Command) → ¬ (Invokes words command)
no_command words no_recode no_expr no_make (recode line) = no_recode line
no_command words no_recode no_expr no_make (expr file) = no_expr file
no_command words no_recode no_expr no_make (make line) = no_make line
