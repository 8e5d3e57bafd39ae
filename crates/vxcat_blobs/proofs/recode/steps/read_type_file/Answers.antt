use Rattle.std.proofs.Common.{refl, sym}
use Rattle.vxcat_blobs.proofs.Recodings.{given_alike, read_alike}
use Rattle.vxcat_blobs.proofs.recode.steps.read_type_file.Goals as goal

pub returns-clause-read : goal.returns-clause-read
returns-clause-read g c = given_alike _ _ _ c.read_type.result c.as_slice.ensures c.read_type.ensures.read

pub returns-clause-complete : goal.returns-clause-complete
returns-clause-complete g c = λ t r. c.read_type.ensures.complete t (read_alike _ _ _ _ t (sym c.as_slice.ensures) refl r)
