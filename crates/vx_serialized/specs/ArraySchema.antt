-- The tables of an array message, their fields in order.
use Rattle.std.specs.Prelude.{List, [], ◌∷◌}
use Rattle.vx_flat.specs.declared.schema.FieldKind.{FieldKind}
use Rattle.vx_flat.specs.declared.schema.FieldKind.TheVariants.{Number, Vector, Structs, Table, Tables}
use Rattle.vx_flat.specs.declared.schema.Width.{Width}
use Rattle.vx_flat.specs.declared.schema.Width.TheVariants.{One, Two, Four}
use Rattle.vx_flat.specs.Schema.{Schema}
pub use Rattle.vx_scalar_wire.specs.StatsSchema.{stats_fields}

-- The message: its root node, and the descriptors of its buffers.
abbrev pub array_fields : List FieldKind
array_fields = Table 1 ∷ Structs 0 ∷ []

-- A node: the index of its encoding, metadata, children, the indices of its buffers, statistics.
abbrev pub node_fields : List FieldKind
node_fields = Number Two ∷ Vector One ∷ Tables 1 ∷ Vector Two ∷ Table 2 ∷ []

-- A descriptor: padding, the exponent of the alignment, compression, length.
abbrev pub descriptor_widths : List Width
descriptor_widths = Two ∷ One ∷ One ∷ Four ∷ []

-- An array message is table 0, a node table 1, its statistics table 2; a descriptor is struct 0.
abbrev pub array_schema : Schema
array_schema = record { root = 0; tables = array_fields ∷ node_fields ∷ stats_fields ∷ []; unions = []; structs = descriptor_widths ∷ [] }
