-- By whether the bytes that were read are a text.
use Rattle.vx_forms.specs.Octets.{octets}
use Rattle.vx_forms.proofs.TextsRead.{text_read, text_refused}
use Rattle.vx_forms.proofs.reading.take_text.Goals as goal

pub returns-in-Ok-clause-whole : goal.returns-in-Ok-clause-whole
returns-in-Ok-clause-whole c =
    text_read ((octets c.args.low c.args.high).read c.args.bytes.now) c.in_ok-octets.octets.now c.in-Ok.text.now
    c.in_ok-octets.rest.now
    c.in_ok-octets.ensures.whole c.in-Ok.ensures.0 c.in-Ok.ensures.1

pub returns-in-Err-clause-refused : goal.returns-in-Err-clause-refused
returns-in-Err-clause-refused c =
    text_refused ((octets c.args.low c.args.high).read c.args.bytes.now) c.in_ok-octets.octets.now
    c.in_ok-octets.rest.now
    c.in_ok-octets.ensures.whole c.in-Err.ensures
