use Rattle.vx_flat_tests.proofs.WorkedMessages.{type_lawful, type_laid_out, type_shown}
use Rattle.vx_flat_tests.proofs.worked.worked_type.Goals as goal

pub returns : goal.returns
returns c = record { lawful = type_lawful; laid_out = type_laid_out; shown = type_shown }
