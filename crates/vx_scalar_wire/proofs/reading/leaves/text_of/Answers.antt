use Rattle.std.proofs.Common.{refl, inr}
use Rattle.std.proofs.lemmas.Str.{is_utf8-from_IsUtf8, IsUtf8-from_is_utf8}
use Rattle.vx_scalar_wire.proofs.reading.leaves.text_of.Goals as goal

pub returns-in_ok-or_memory-in-Ok-clause-is_text : goal.returns-in_ok-or_memory-in-Ok-clause-is_text
returns-in_ok-or_memory-in-Ok-clause-is_text c = is_utf8-from_IsUtf8 c.args.bytes.now c.in-Ok.ensures.cases.1

pub returns-in-Err-clause-cause : goal.returns-in-Err-clause-cause
returns-in-Err-clause-cause c = inr (refl, λ t. c.in-Err.ensures.cases.0 (IsUtf8-from_is_utf8 c.args.bytes.now t))
