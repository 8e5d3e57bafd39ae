-- The cause of each refusal to decode.
use Rattle.std.specs.Prelude.{ℕ}
use Rattle.vx_types.specs.Typ.{Typ}
use Rattle.vx_wire_tree.specs.Causes.{RefusesTree}
use Rattle.vx_wire_tree.specs.Causes as trees
use Rattle.vx_wire_tree.specs.Session.{SessionMeaning}
use Rattle.vx_wire_tree.specs.Wire.{Wire}
use Rattle.vx_encodings.specs.Messages.{codec}
use Rattle.vx_serialized.specs.declared.error.WireError.{WireError}
use Rattle.vx_serialized.specs.declared.error.WireError.TheVariants.{OutOfMemory, OutOfBounds, UnknownIndex, UnknownEncoding, BadMetadata, BadShape, BadContent, ForeignControl, BadStats, PluginRefused}

-- Why a wire tree decodes to no array at a type and a length: by the refusal.
abbrev pub RefusesWire : SessionMeaning → WireError → Wire → Typ → ℕ → Type 0
RefusesWire s OutOfMemory w d n = Unit {0}
RefusesWire s OutOfBounds w d n = RefusesTree trees.out_of_bounds codec s w d n
RefusesWire s UnknownIndex w d n = RefusesTree trees.unknown_index codec s w d n
RefusesWire s UnknownEncoding w d n = RefusesTree trees.unknown_encoding codec s w d n
RefusesWire s BadMetadata w d n = RefusesTree trees.bad_metadata codec s w d n
RefusesWire s BadShape w d n = RefusesTree trees.bad_shape codec s w d n
RefusesWire s BadContent w d n = RefusesTree trees.bad_content codec s w d n
RefusesWire s ForeignControl w d n = RefusesTree trees.foreign_control codec s w d n
RefusesWire s BadStats w d n = RefusesTree trees.bad_stats codec s w d n
RefusesWire s PluginRefused w d n = RefusesTree trees.plugin_refused codec s w d n
RefusesWire s _ w d n = ⊥
