use Rattle.std.proofs.Common.{arith}
use Rattle.vx_encodings.proofs.ElementCounts.{list_formed}
use Rattle.vx_encodings.proofs.encodings.lists.ListMetadataMessage.to_value.Goals as goal

pub returns-clause-form : goal.returns-clause-form
returns-clause-form c = let n = c.args.self.now.elements_len in list_formed n c.args.self.now.offset_ptype (omega arith)
