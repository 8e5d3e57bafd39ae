use Rattle.vx_flat.specs.Reading.{text_shown}
use Rattle.vx_flat.specs.Weight.{bytes_alone}
use Rattle.std.proofs.Common.{◌+◌, length}
use Rattle.vx_flat.proofs.Counting.{counted_alone}
use Rattle.vx_flat.proofs.Parts.{text_weighs}
use Rattle.vx_flat.proofs.reading.verifying.verify_text.Goals as goal

pub returns-clause-verifies : goal.returns-clause-verifies
returns-clause-verifies c = λ levels.
    let m = c.args.message.now in
    let s = c.in-Some.text.now in
    rw (text_weighs m c.args.place s c.in-Some.ensures)
    (counted_alone c.add_bytes.result (text_shown m c.args.place) s c.args.budget.now levels (bytes_alone (5 + length s))
    c.add_bytes.new.self c.in-Some.ensures (c.add_bytes.ensures.counts levels))
