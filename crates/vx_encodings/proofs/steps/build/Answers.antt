use Rattle.vx_encodings.proofs.Refusing.{build_complete}
use Rattle.vx_encodings.proofs.steps.build.Goals as goal

pub returns-clause-complete : goal.returns-clause-complete
returns-clause-complete g c =
    build_complete _ c.args.encoding c.args.head c.args.buffers c.args.children c.build_by.result c.requires c.build_by.ensures.err
