-- Why a blob is not read at a type and a length, and the limits on reading it.
use Rattle.std.specs.Prelude.{ℕ, List, ◌⊎◌}
use Rattle.vx_flat.specs.Weight.{weight}
use Rattle.vx_flat.specs.declared.limits.Limits.{Limits}
use Rattle.vx_flat.specs.Limits.{KeepsLimits}
use Rattle.vx_types.specs.Typ.{Typ}
use Rattle.vx_wire_tree.specs.Session.{SessionMeaning}
use Rattle.vx_wire_tree.specs.Wire.{Wire}
use Rattle.vx_serialized.specs.declared.error.WireError.{WireError}
use Rattle.vx_serialized.specs.declared.error.WireError.TheVariants.{OutOfMemory, TooShort, BadTable, TableLimit, BadAlignment, Compressed, OutOfBounds, UnknownIndex, UnknownEncoding, BadMetadata, BadShape, BadContent, ForeignControl, BadStats, PluginRefused}
use Rattle.vx_serialized.specs.ArraySchema.{array_schema}
use Rattle.vx_serialized.specs.Blob.{IsBlob, Carries}
use Rattle.vx_serialized.specs.Causes.{RefusesWire}
use Rattle.vx_serialized.specs.Opening.{RefusesOpening}

-- A blob's message keeps the limits on reading.
pub record IsWithinLimits (most : Limits) (blob : List ℕ) : Type 0 where
  pub within_limits : (segment message : List ℕ) → IsBlob blob segment message → KeepsLimits most (weight array_schema message)

-- The blob carries a wire tree that decodes to no array at the type and the length.
pub record RefusesCarried (s : SessionMeaning) (e : WireError) (blob : List ℕ) (ids : List (List ℕ)) (d : Typ) (n : ℕ) : Type 0 where
  pub wire : Wire
  pub carried : Carries blob ids wire
  pub cause : RefusesWire s e wire d n

-- Why a blob is not read at a type and a length: by the refusal. Allocation failure has no other cause. The blob's own
-- faults are those with which it is not opened, the others those of the nodes that it carries.
abbrev pub RefusesBlob : Limits → SessionMeaning → WireError → List ℕ → List (List ℕ) → Typ → ℕ → Type 0
RefusesBlob most s OutOfMemory blob ids d n = Unit {0}
RefusesBlob most s TooShort blob ids d n = RefusesOpening most TooShort blob
RefusesBlob most s BadTable blob ids d n = RefusesOpening most BadTable blob
RefusesBlob most s TableLimit blob ids d n = RefusesOpening most TableLimit blob
RefusesBlob most s BadAlignment blob ids d n = RefusesOpening most BadAlignment blob
RefusesBlob most s Compressed blob ids d n = RefusesOpening most Compressed blob
RefusesBlob most s OutOfBounds blob ids d n = RefusesOpening most OutOfBounds blob ⊎ RefusesCarried s OutOfBounds blob ids d n
RefusesBlob most s UnknownIndex blob ids d n = RefusesCarried s UnknownIndex blob ids d n
RefusesBlob most s UnknownEncoding blob ids d n = RefusesCarried s UnknownEncoding blob ids d n
RefusesBlob most s BadMetadata blob ids d n = RefusesCarried s BadMetadata blob ids d n
RefusesBlob most s BadShape blob ids d n = RefusesCarried s BadShape blob ids d n
RefusesBlob most s BadContent blob ids d n = RefusesCarried s BadContent blob ids d n
RefusesBlob most s ForeignControl blob ids d n = RefusesCarried s ForeignControl blob ids d n
RefusesBlob most s BadStats blob ids d n = RefusesCarried s BadStats blob ids d n
RefusesBlob most s PluginRefused blob ids d n = RefusesCarried s PluginRefused blob ids d n
RefusesBlob most s _ blob ids d n = ⊥
