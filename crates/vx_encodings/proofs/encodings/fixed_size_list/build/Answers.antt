use Rattle.std.proofs.Common.{◌∙◌, sym, subst}
use Rattle.vx_encodings.proofs.FixedSizeListSteps.{few_children, lists_built, lists_refused}
use Rattle.vx_encodings.specs.Steps.{RefusesBuilding}
use Rattle.vx_encodings.specs.declared.encoding.Encoding.TheVariants.{FixedSizeList}
use Rattle.vx_plans.specs.declared.error.EncodingError.{EncodingError}
use Rattle.vx_encodings.proofs.encodings.fixed_size_list.build.Goals as goal

pub first_and_validity-elements-requires-clause-few : goal.first_and_validity-elements-requires-clause-few
first_and_validity-elements-requires-clause-few c = few_children c.args.head c.args.children _ c.requires c.into_vec.ensures.items

pub returns-in-Ok-clause-parts : goal.returns-in-Ok-clause-parts
returns-in-Ok-clause-parts c =
    let parts = c.first_and_validity-elements.result in
    λ x. lists_built x c.args.head c.args.buffers c.args.children parts.0 parts.1 c.in-FixedSizeList.field-0 c.in-FixedSizeList.size c.in-FixedSizeList.nullability c.in-Ok.array c.requires
    (c.is_empty.ensures.0 c.if-not-is_empty.false) c.in-FixedSizeList.is (c.first_and_validity-elements.ensures ∙ c.into_vec.ensures.items) c.in-Ok.ensures.ok

pub returns-clause-err : goal.returns-clause-err
returns-clause-err c =
    let parts = c.first_and_validity-elements.result in
    λ x. subst (λ (e : EncodingError). RefusesBuilding e x FixedSizeList c.args.head c.args.buffers c.args.children) (sym c.of_constructor.ensures)
    (lists_refused x c.in-Err.e c.args.head c.args.buffers c.args.children parts.0 parts.1 c.in-FixedSizeList.field-0 c.in-FixedSizeList.size c.in-FixedSizeList.nullability c.requires
    (c.is_empty.ensures.0 c.if-not-is_empty.false) c.in-FixedSizeList.is (c.first_and_validity-elements.ensures ∙ c.into_vec.ensures.items) c.in-Err.ensures.err)
