-- Documents as messages.
use Rattle.std.specs.Prelude.{[], ◌∷◌}
use Rattle.vx_proto.specs.declared.schema.ScalarKind.TheVariants.{Bytes}
use Rattle.vx_proto.specs.declared.schema.Kind.TheVariants.{Message}
use Rattle.vx_proto.specs.Schema.{Schema, plain, repeated}

-- A section of a document: its body, field 1, and the sections in it, field 2.
abbrev pub document_lists : Schema
document_lists = (plain 1 Bytes ∷ repeated 2 (Message 0) ∷ []) ∷ []
