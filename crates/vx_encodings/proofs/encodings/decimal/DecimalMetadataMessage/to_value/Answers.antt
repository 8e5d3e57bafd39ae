use Rattle.std.proofs.Common.{refl}
use Rattle.vx_numbers.specs.Decimals.{decimal_code_of}
use Rattle.vx_proto.specs.declared.schema.ScalarKind.TheVariants.{Enum}
use Rattle.vx_encodings.proofs.Numbers.{number_formed}
use Rattle.vx_encodings.proofs.Widths.{few_codes}
use Rattle.vx_encodings.proofs.encodings.decimal.DecimalMetadataMessage.to_value.Goals as goal

pub returns-clause-form : goal.returns-clause-form
returns-clause-form c = let w = c.args.self.now.values_type in number_formed (Enum 6) tt (decimal_code_of w) (decimal_code_of w, refl, few_codes w)
