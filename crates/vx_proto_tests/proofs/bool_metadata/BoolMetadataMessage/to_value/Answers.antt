use Rattle.std.proofs.Common.{refl, arith}
use Rattle.vx_proto.proofs.LawsOfParts.{whole_form}
use Rattle.vx_proto_tests.specs.BoolMetadata.{bool_lists, bool_parts}
use Rattle.vx_proto_tests.proofs.bool_metadata.BoolMetadataMessage.to_value.Goals as goal

pub returns-clause-form : goal.returns-clause-form
returns-clause-form c = let n = c.args.self.now.offset in whole_form bool_lists 0 bool_parts (n, tt) ((n, refl, omega arith), tt)
