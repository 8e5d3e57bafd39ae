use Rattle.vx_wire_tree.proofs.Laws.{matched_normal}
use Rattle.vx_encodings.specs.Messages.{codec}
use Rattle.vx_serde.proofs.laws.spelled_is_normal.Goals as goal

pub returns : goal.returns
returns c = λ blob ids d n s t ok law x. matched_normal codec s ok law x.wire t x.told.matched
