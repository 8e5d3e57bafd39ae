-- The schema of tables of statistics.
use Rattle.std.specs.Prelude.{List, [], ◌∷◌, IsTrue, refl}
use Rattle.vx_flat.specs.declared.schema.FieldKind.{FieldKind}
use Rattle.vx_flat.specs.declared.schema.FieldKind.TheVariants.{Number, OptNumber, OptFlag, Vector}
use Rattle.vx_flat.specs.declared.schema.Width.TheVariants.{One, Eight}
use Rattle.vx_flat.specs.Schema.{Schema, is_lawful}

-- The least and the greatest value, each with a precision, the sum, three flags and three counts.
abbrev pub stats_fields : List FieldKind
stats_fields = Vector One ∷ Number One ∷ Vector One ∷ Number One ∷ Vector One ∷ OptFlag ∷ OptFlag ∷ OptFlag ∷ OptNumber Eight ∷ OptNumber Eight ∷ OptNumber Eight ∷ []

-- A message of one such table.
abbrev pub stats_schema : Schema
stats_schema = record { root = 0; tables = stats_fields ∷ []; unions = []; structs = [] }

-- It is lawful.
pub stats_schema_lawful : IsTrue (is_lawful stats_schema)
stats_schema_lawful = refl
