use Rattle.std.proofs.Common.{ap}
use Rattle.vx_serialized.specs.Serialized.{Serialized}
use Rattle.vx_serialized.proofs.SerializedNodes.{table_fields, table_some, table_none}
use Rattle.vx_serialized.proofs.serialized.node.SerializedNode.statistics.Goals as goal

pub returns-clause-fields : goal.returns-clause-fields
returns-clause-fields c =
    table_fields c.self.inside.view c.self.invariant.of c.args.self.now.root (ap (λ (a : Serialized). a.root) c.self.view_is) c.table.result c.table.ensures.below c.table.ensures.kind

pub returns-clause-some : goal.returns-clause-some
returns-clause-some c = table_some c.self.inside.view c.self.invariant.of c.args.self.now.root (ap (λ (a : Serialized). a.root) c.self.view_is) c.table.result c.table.ensures.part

pub returns-clause-none : goal.returns-clause-none
returns-clause-none c = table_none c.self.inside.view c.self.invariant.of c.args.self.now.root (ap (λ (a : Serialized). a.root) c.self.view_is) c.table.result c.table.ensures.part
