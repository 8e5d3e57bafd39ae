use Rattle.vxcat_core.proofs.Outcomes.{no_command}
use Rattle.vxcat_core.proofs.commands.parse_command.Goals as goal

pub returns-in-None-parse_make-clause-none : goal.returns-in-None-parse_make-clause-none
returns-in-None-parse_make-clause-none c = no_command c.args.words.now c.in-None.ensures.none c.in-None-parse_expr.ensures.none c.in-None-parse_make.ensures.none
