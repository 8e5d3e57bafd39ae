use Rattle.std.proofs.Common.{ℕ, List, subst, ◌∙◌}
use Rattle.vx_proto.specs.Reads.{Reads}
use Rattle.vx_encodings.proofs.BoolSteps.{few_children, flags_built}
use Rattle.vx_encodings.specs.BoolMessage.{bool_schema, bool_value}
use Rattle.vx_encodings.proofs.encodings.bool.build.Goals as goal

pub only_validity-validity-requires : goal.only_validity-validity-requires
only_validity-validity-requires c = few_children c.args.head c.args.children _ c.in-Bool.nullability c.requires c.in-Bool.is c.into_vec.ensures.items

pub returns-in-Ok-clause-parts : goal.returns-in-Ok-clause-parts
returns-in-Ok-clause-parts c =
    let o = c.in_ok-metadata.metadata.offset in
    let shown = subst (λ (bytes : List ℕ). Reads bool_schema 0 bytes (bool_value o)) c.as_slice.ensures c.in_ok-metadata.ensures.read in
    λ x. flags_built x c.args.head c.args.buffers c.args.children o c.in-Bool.nullability c.in-Some.bits c.only_validity-validity.result c.in-Ok.array c.requires shown c.in-Bool.is c.in-Some.ensures.one (c.only_validity-validity.ensures ∙ c.into_vec.ensures.items) c.in-Ok.ensures.ok
