-- Where it is known where rows are, the offsets hold no foreign node.
use Rattle.std.proofs.Common.{refl}
use Rattle.std.proofs.lemmas.Bool.{iff_false}
use Rattle.vx_arrays.proofs.encodings.varbin.is_right.Goals as goal

pub returns-else-has_no_foreign : goal.returns-else-has_no_foreign
returns-else-has_no_foreign c = λ k. absurd (iff_false c.has_no_foreign.ensures c.if-has_no_foreign.false (k.controls 0 c.args.offsets.now refl refl))
