use Rattle.vx_flat.specs.Reading.{elements_shown}
use Rattle.vx_flat.specs.Weight.{bytes_alone}
use Rattle.std.proofs.Common.{◌+◌, length}
use Rattle.vx_flat.proofs.Counting.{counted_alone}
use Rattle.vx_flat.proofs.Parts.{elements_weigh}
use Rattle.vx_flat.proofs.reading.verifying.verify_elements.Goals as goal

pub returns-clause-verifies : goal.returns-clause-verifies
returns-clause-verifies c = λ levels.
    let m = c.args.message.now in
    let s = c.in-Some.bytes.now in
    rw (elements_weigh m c.args.place c.args.size s c.in-Some.ensures)
    (counted_alone c.add_bytes.result (elements_shown m c.args.place c.args.size) s c.args.budget.now levels
    (bytes_alone (4 + length s)) c.add_bytes.new.self c.in-Some.ensures (c.add_bytes.ensures.counts levels))
