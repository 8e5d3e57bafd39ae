-- How a run of the program ends, and what stands afterwards.
use Rattle.std.specs.Prelude.{◌≡◌, ℕ, List}
use Rattle.vxcat_store.specs.declared.status.Status.{Status}
use Rattle.vxcat_store.specs.declared.status.Status.TheVariants.{NoCommand}
use Rattle.vxcat_core.specs.Commands.{CanEnd, Command, Ends, Invokes}
use Rattle.vxcat_store.specs.RunState.{IsUntouched, Run}
use Rattle.vxcat_store.specs.Status.{status_number}
use Rattle.vxcat_store.specs.StoreState.{StoreState}

-- How a run ends: at 2 the words invoke no command, and nothing is saved or printed; else they invoke one, and it ends
-- with the status.
abbrev pub Outcome : Status → List (List ℕ) → Run → Type 0
Outcome NoCommand words run = ((command : Command) → ¬ (Invokes words command)) × IsUntouched run
Outcome status words run = (command : Command) × Invokes words command × Ends status command run

-- The number with which a run ended is that of a status, with that outcome.
pub record HasOutcome (number : ℕ) (words : List (List ℕ)) (run : Run) : Type 0 where
  pub status : Status
  pub number_is : number ≡ status_number status
  pub outcome : Outcome status words run

-- A run can end well: the words invoke a command, and a run of it can.
pub record CanRun (words : List (List ℕ)) (before : StoreState) : Type 0 where
  pub command : Command
  pub invoked : Invokes words command
  pub can_end : CanEnd command before
