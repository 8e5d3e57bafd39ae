use Rattle.vx_flat_tests.proofs.WorkedMessages.{array_lawful, array_laid_out, array_shown, array_weighs}
use Rattle.vx_flat_tests.proofs.worked.worked_array.Goals as goal

pub returns : goal.returns
returns c = record { lawful = array_lawful; laid_out = array_laid_out; shown = array_shown; weighs = array_weighs }
