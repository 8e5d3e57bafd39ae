-- The fields have the form of the message.
use Rattle.std.proofs.Common.{arith}
use Rattle.vx_encodings.proofs.DictFields.{dict_formed}
use Rattle.vx_encodings.proofs.encodings.dict.DictMetadataMessage.to_value.Goals as goal

pub returns-clause-form : goal.returns-clause-form
returns-clause-form c = let m = c.args.self.now in dict_formed (record { values_len = m.values_len; codes_ptype = m.codes_ptype; is_nullable_codes = m.is_nullable_codes; all_values_referenced = m.all_values_referenced }) (omega arith)
