use Rattle.std.proofs.Common.{false}
use Rattle.vxcat_blobs.proofs.Sessions.{same_session}
use Rattle.vxcat_blobs.proofs.make.steps.write_again.Goals as goal

pub write_under-requires-clause-session : goal.write_under-requires-clause-session
write_under-requires-clause-session c =
    same_session _ _ c.new-session.result c.in-Ok.arrays c.new.result false false c.new-session.ensures.arrays c.new-session.ensures.ext c.in-Ok.ensures.shipped c.new.ensures
