-- What was written so far, before what is still to be written, is the whole.
use Rattle.std.proofs.Common.{◌<◌, ◌^◌, drop}
use Rattle.vx_buffer.specs.Joined.{joined}
use Rattle.vx_registry.specs.Meaning.{session_meaning}
use Rattle.vx_file.specs.FooterReading.{ranges_of}
use Rattle.vx_file.proofs.WritingSteps.{LeadsTo}
use Rattle.vx_file.proofs.written_columns.write_columns.Given as goal

abbrev pub invariant-loop-column : goal.invariant-loop-column
invariant-loop-column g l =
    let s = session_meaning (λ b. (goal.ArrayPlugin-dyn g (b.vtable, b.value)).means b.value) (λ b. (goal.ExtPlugin-dyn g (b.vtable, b.value)).accepted b.value) l.session in
    record {
      leads : LeadsTo s l.columns (drop l.column-index l.columns) (joined l.buffers) (ranges_of l.ranges.items) l.offset l.ctx;
      ends : l.offset < 2 ^ 64;
    }
