use Rattle.std.proofs.Common.{refl, arith}
use Rattle.vx_proto.specs.declared.schema.ScalarKind.TheVariants.{Uint32}
use Rattle.vx_encodings.proofs.Numbers.{number_formed}
use Rattle.vx_encodings.proofs.encodings.bool.BoolMetadataMessage.to_value.Goals as goal

pub returns-clause-form : goal.returns-clause-form
returns-clause-form c = let n = c.args.self.now.offset in number_formed Uint32 tt n (n, refl, omega arith)
