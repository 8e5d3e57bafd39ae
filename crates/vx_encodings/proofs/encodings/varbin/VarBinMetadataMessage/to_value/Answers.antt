use Rattle.std.proofs.Common.{refl}
use Rattle.vx_numbers.specs.Numbers.{code_of}
use Rattle.vx_proto.specs.declared.schema.ScalarKind.TheVariants.{Enum}
use Rattle.vx_encodings.proofs.OffsetKinds.{few_kinds}
use Rattle.vx_encodings.proofs.Numbers.{number_formed}
use Rattle.vx_encodings.proofs.encodings.varbin.VarBinMetadataMessage.to_value.Goals as goal

pub returns-clause-form : goal.returns-clause-form
returns-clause-form c = let p = c.args.self.now.offsets_ptype in number_formed (Enum 11) tt (code_of p) (code_of p, refl, few_kinds p)
