use Rattle.vx_proto.specs.Value.{value_view}
use Rattle.vx_types.specs.Seen.{typ}
use Rattle.vx_scalar_wire.proofs.Refused.{value_given, value_refused}
use Rattle.vx_scalar_wire.proofs.reading.read_value.Goals as goal

pub returns-clause-read : goal.returns-clause-read
returns-clause-read g c = λ s k. value_given c.value_in.result s 100 (typ c.args.dtype.now) (value_view c.args.slots.now) (c.value_in.ensures.read s k)

pub returns-clause-cause : goal.returns-clause-cause
returns-clause-cause g c = λ s k. value_refused c.value_in.result s 100 (typ c.args.dtype.now) (value_view c.args.slots.now) (c.value_in.ensures.read s k)
