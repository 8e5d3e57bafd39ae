use Rattle.vx_encodings.proofs.PrimitiveSteps.{few_children}
use Rattle.vx_encodings.proofs.encodings.primitive.build.Goals as goal

pub only_validity-validity-requires : goal.only_validity-validity-requires
only_validity-validity-requires c = few_children c.args.head c.args.children _ c.in-Primitive.ptype c.in-Primitive.nullability c.requires c.in-Primitive.is c.into_vec.ensures.items
