use Rattle.std.proofs.Common.{◌+◌, ◌∙◌, ap}
use Rattle.vx_flat.specs.Weight.{weight}
use Rattle.vx_flat.specs.declared.weight.Weight.{Weight}
use Rattle.vx_flat_tests.specs.Worked.{array_schema}
use Rattle.vx_flat_tests.proofs.WorkedMessages.{array_weighs}
use Rattle.vx_flat_tests.proofs.viewing.weight_in_three_steps.Goals as goal

pub returns : goal.returns
returns g c =
    c.in_ok-root.ensures.exact
    ∙ (ap (λ m. c.args.steps.now + (weight array_schema m).tables) c.requires
    ∙ ap (λ (w : Weight). c.args.steps.now + w.tables) array_weighs)
