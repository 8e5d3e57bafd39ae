-- The commands of the program, a case for each line of the table; every definition here goes by these cases.
use Rattle.std.specs.Prelude.{ℕ, List}
use Rattle.vxcat_store.specs.declared.status.Status.{Status}
use Rattle.vxcat_blobs.specs.ExprCommand.{CanEndExpr, EndsExpr, InvokesExpr}
use Rattle.vxcat_blobs.specs.MakeCommand.{CanEndMake, EndsMake, InvokesMake, Make}
use Rattle.vxcat_blobs.specs.Recode.{CanEndRecode, EndsRecode, InvokesRecode, Recode}
use Rattle.vxcat_store.specs.RunState.{Run}
use Rattle.vxcat_store.specs.StoreState.{StoreState}

-- A command with what its words name.
pub data Command : Type 0 where
  recode : Recode → Command
  expr : List ℕ → Command
  make : Make → Command

-- The words invoke the command.
abbrev pub Invokes : List (List ℕ) → Command → Type 0
Invokes words (recode line) = InvokesRecode words line
Invokes words (expr file) = InvokesExpr words file
Invokes words (make line) = InvokesMake words line

-- How a run of the command ends, by its status.
abbrev pub Ends : Status → Command → Run → Type 0
Ends status (recode line) run = EndsRecode status line run
Ends status (expr file) run = EndsExpr status file run
Ends status (make line) run = EndsMake status line run

-- A run of the command can end well.
abbrev pub CanEnd : Command → StoreState → Type 0
CanEnd (recode line) before = CanEndRecode line before
CanEnd (expr file) before = CanEndExpr file before
CanEnd (make line) before = CanEndMake line before
