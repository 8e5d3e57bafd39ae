use Rattle.std.proofs.Common.{ap, ◌∙◌}
use Rattle.vx_flat.specs.Seen.{seen}
use Rattle.vx_flat.specs.Value.{field, no_fields}
use Rattle.vx_flat.proofs.LawsOfViews.{seen-of}
use Rattle.vx_flat_tests.specs.Worked.{primitive_schema}
use Rattle.vx_flat_tests.proofs.traits.TagReadFlatBuffer.read_flatbuffer.Goals as goal

pub returns-in-Known-clause-read : goal.returns-in-Known-clause-read
returns-in-Known-clause-read c = (
  seen c.in-Known._member,
  seen-of primitive_schema 0 c.args.view.now c.requires ∙ ap (λ f. field f no_fields) c.in-Known.ensures.part.0,
)
