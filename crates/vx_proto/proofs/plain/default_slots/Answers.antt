use Rattle.vx_proto.specs.Schema.{schema_view}
use Rattle.vx_proto.proofs.LawsOfMessages.{default_given, default_fails}
use Rattle.vx_proto.proofs.plain.default_slots.Goals as goal

pub returns-clause-same : goal.returns-clause-same
returns-clause-same c = default_given (schema_view c.args.schema) c.args.place c.message_of.result c.message_of.ensures

pub returns-clause-err : goal.returns-clause-err
returns-clause-err c = default_fails (schema_view c.args.schema) c.args.place c.message_of.result c.message_of.ensures
