use Rattle.std.proofs.Common.{refl}
use Rattle.vx_flat_tests.proofs.WorkedMessages.{type_laid_out, type_shown}
use Rattle.vx_type_wire_tests.proofs.WorkedIntegers.{type_message-within_limits}
use Rattle.vx_type_wire_tests.proofs.worked.worked_integers.Goals as goal

pub returns : goal.returns
returns c = record {
  laid_out = type_laid_out;
  shown = record { is_type = (refl, tt); shown = type_shown; within_limits = type_message-within_limits };
}
