use Rattle.std.proofs.Common.{refl, sym, ◌∙◌}
use Rattle.vxcat_store.specs.RunState.{run_of}
use Rattle.vxcat_store.specs.declared.status.Status.TheVariants.{NoCommand}
use Rattle.vxcat_store.proofs.Laws.{keeps_same}
use Rattle.vxcat_core.specs.CommandViews.{command_of}
use Rattle.vxcat_core.proofs.Completeness.{complete}
use Rattle.vxcat_core.proofs.Outcomes.{ends_not_two, has_outcome}
use Rattle.vxcat_core.proofs.program.run.Goals as goal

pub returns-in-Some-clause-no_command : goal.returns-in-Some-clause-no_command
returns-in-Some-clause-no_command g c =
    let command = command_of c.in-Some.command in
    let run = run_of (g.S.Store.state c.args.store.now) (g.S.Store.state c.run_command.new.store) (g.O.Sink.state c.args.out.now) (g.O.Sink.state c.run_command.new.out) in (
      λ two. absurd (ends_not_two c.run_command.result command run c.run_command.ensures (sym c.number.ensures ∙ two)),
      λ none. absurd (none command c.in-Some.ensures.invoked),
    )

pub returns-in-Some-clause-outcome : goal.returns-in-Some-clause-outcome
returns-in-Some-clause-outcome g c =
    let run = run_of (g.S.Store.state c.args.store.now) (g.S.Store.state c.run_command.new.store) (g.O.Sink.state c.args.out.now) (g.O.Sink.state c.run_command.new.out) in
    has_outcome c.number.result c.run_command.result c.args.words.now (command_of c.in-Some.command) run c.number.ensures c.in-Some.ensures.invoked c.run_command.ensures

pub returns-in-Some-clause-complete : goal.returns-in-Some-clause-complete
returns-in-Some-clause-complete g c = λ can quiet.
    let run = run_of (g.S.Store.state c.args.store.now) (g.S.Store.state c.run_command.new.store) (g.O.Sink.state c.args.out.now) (g.O.Sink.state c.run_command.new.out) in
    let ends = complete c.args.words.now c.run_command.result (command_of c.in-Some.command) run can quiet c.in-Some.ensures.invoked c.run_command.ensures in
    rw c.number.ensures ends

pub returns-in-None-clause-outcome : goal.returns-in-None-clause-outcome
returns-in-None-clause-outcome g c = record {
  status = NoCommand;
  number_is = c.number-in-None.ensures;
  outcome = (c.in-None.ensures.none, record { told = refl; files = refl; unprinted = keeps_same (g.O.Sink.state c.args.out.now).written });
}

pub returns-in-None-clause-complete : goal.returns-in-None-clause-complete
returns-in-None-clause-complete g c = λ can quiet. absurd (c.in-None.ensures.none can.command can.invoked)

pub returns-in-None-clause-no_command : goal.returns-in-None-clause-no_command
returns-in-None-clause-no_command g c = (λ two. c.in-None.ensures.none, λ none. c.number-in-None.ensures)
