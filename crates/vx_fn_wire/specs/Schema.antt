-- The schemas of the messages of expressions and of aggregate functions.
use Rattle.std.specs.Prelude.{[], ◌∷◌}
use Rattle.vx_proto.specs.declared.schema.Kind.TheVariants.{Message}
use Rattle.vx_proto.specs.declared.schema.ScalarKind.TheVariants.{String, Bytes}
use Rattle.vx_proto.specs.Schema.{Schema, plain, optional, repeated}

-- An expression: its identifier, its children, and metadata that may be absent.
abbrev pub expr_lists : Schema
expr_lists = (plain 1 String ∷ repeated 2 (Message 0) ∷ optional 3 Bytes ∷ []) ∷ []

-- An aggregate function: its identifier, and metadata that may be absent.
abbrev pub aggregate_lists : Schema
aggregate_lists = (plain 1 String ∷ optional 2 Bytes ∷ []) ∷ []
