-- What contracts see of the words of a command that the program holds.
use Rattle.std.specs.Prelude.{ℕ, List}
use Rattle.vxcat_blobs.specs.MakeViews.{make_line}
use Rattle.vxcat_blobs.specs.RecodeViews.{line_of}
use Rattle.vxcat_core.specs.declared.commands.CommandWords.{CommandWords}
use Rattle.vxcat_core.specs.declared.commands.CommandWords.TheVariants.{Recode, Expr, Make}
use Rattle.vxcat_core.specs.Commands.{Command, Invokes, recode, expr, make}

-- The command that is held.
abbrev pub command_of : CommandWords → Command
command_of (Recode words) = recode (line_of words)
command_of (Expr file) = expr file.now
command_of (Make words) = make (make_line words)

-- Some words invoke the command.
abbrev pub IsInvoked : Command → Type 0
IsInvoked command = (words : List (List ℕ)) × Invokes words command
