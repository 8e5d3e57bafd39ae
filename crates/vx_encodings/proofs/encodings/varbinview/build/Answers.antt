use Rattle.vx_encodings.proofs.VarBinViewSteps.{few_children}
use Rattle.vx_encodings.proofs.encodings.varbinview.build.Goals as goal

pub only_validity-validity-requires : goal.only_validity-validity-requires
only_validity-validity-requires c = few_children c.args.head c.args.children _ c.requires c.into_vec.ensures.items
