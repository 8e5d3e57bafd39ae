use Rattle.std.proofs.Common.{arith}
use Rattle.vx_encodings.proofs.ViewCounts.{views_formed}
use Rattle.vx_encodings.specs.ListViewMessage.{kept_views}
use Rattle.vx_encodings.proofs.encodings.list_view.ListViewMetadataMessage.to_value.Goals as goal

pub returns-clause-form : goal.returns-clause-form
returns-clause-form c = let m = c.args.self.now in views_formed (kept_views m.elements_len m.offset_ptype m.size_ptype) (omega arith)
