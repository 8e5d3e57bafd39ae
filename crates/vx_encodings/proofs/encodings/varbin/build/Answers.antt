use Rattle.std.proofs.Common.{◌∙◌}
use Rattle.vx_encodings.proofs.VarBinSteps.{some_child, few_children, varbins_built}
use Rattle.vx_encodings.proofs.encodings.varbin.build.Goals as goal

pub first_and_validity-offsets-requires-clause-some : goal.first_and_validity-offsets-requires-clause-some
first_and_validity-offsets-requires-clause-some c = some_child c.args.head c.args.children _ c.requires c.into_vec.ensures.items

pub first_and_validity-offsets-requires-clause-few : goal.first_and_validity-offsets-requires-clause-few
first_and_validity-offsets-requires-clause-few c = few_children c.args.head c.args.children _ c.requires c.into_vec.ensures.items

pub returns-in-Ok-clause-parts : goal.returns-in-Ok-clause-parts
returns-in-Ok-clause-parts c =
    let parts = c.first_and_validity-offsets.result in
    λ x. varbins_built x c.args.head c.args.buffers c.args.children parts.0 c.in-Some.bytes parts.1 c.in-Ok.array c.requires c.in-Some.ensures.one (c.first_and_validity-offsets.ensures ∙ c.into_vec.ensures.items) c.in-Ok.ensures.ok
