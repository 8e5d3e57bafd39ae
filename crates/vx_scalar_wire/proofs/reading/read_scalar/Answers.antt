use Rattle.vx_proto.specs.Value.{value_view}
use Rattle.vx_scalar_wire.proofs.Refused.{scalar_given, scalar_refused}
use Rattle.vx_scalar_wire.proofs.reading.read_scalar.Goals as goal

pub returns-clause-read : goal.returns-clause-read
returns-clause-read g c = λ s k. scalar_given c.scalar_in.result s 100 (value_view c.args.slots.now) (c.scalar_in.ensures.read s k)

pub returns-clause-cause : goal.returns-clause-cause
returns-clause-cause g c = λ s k. scalar_refused c.scalar_in.result s 100 (value_view c.args.slots.now) (c.scalar_in.ensures.read s k)
