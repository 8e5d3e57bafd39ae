use Rattle.vx_serialized.proofs.LawsOfRefusals.{reader_limits}
use Rattle.vx_serialized.proofs.laws.reader_limits.Goals as goal

pub returns : goal.returns
returns c = λ most blob a is. reader_limits most blob a is
