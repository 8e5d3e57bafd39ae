-- The steps of one node, as the calls of this crate take them, and when each is refused.
use Rattle.std.specs.Prelude.{ℕ, List, Result, Ok, Err}
use Rattle.vx_buffer.specs.Buffer.{Buffer}
use Rattle.vx_trees.specs.Rose.{label, below}
use Rattle.vx_types.specs.Known.{ExtMeaning}
use Rattle.vx_types.specs.Seen.{typ}
use Rattle.vx_array_tree.specs.Place.{Place}
use Rattle.vx_array_tree.specs.Tree.{Tree, Trees}
use Rattle.vx_proto.specs.Reads.{Reads}
use Rattle.vx_proto.specs.Schema.{Schema}
use Rattle.vx_proto.specs.Value.{Value}
use Rattle.vx_proto.specs.declared.error.ProtoError.{ProtoError}
use Rattle.vx_proto.specs.declared.error.ProtoError.TheVariants as P
use Rattle.vx_wire_tree.specs.Limits.{HasMessage}
use Rattle.vx_wire_tree.specs.Steps.{HasNoMetadata, PlansChildren, HasNoPlan, HasParts, HasWrongShape, HasWrongControl, HasWrongContent}
use Rattle.vx_rows.specs.declared.error.ArrayError.{ArrayError}
use Rattle.vx_rows.specs.declared.error.ArrayError.TheVariants as A
use Rattle.vx_encodings.specs.Messages.{codec}
use Rattle.vx_encodings.specs.Plain.{plain_encoding}
use Rattle.vx_encodings.specs.declared.encoding.Encoding.{Encoding}
use Rattle.vx_plans.specs.declared.error.EncodingError.{EncodingError}
use Rattle.vx_plans.specs.declared.error.EncodingError.TheVariants.{OutOfMemory, BadMetadata, BadShape, BadContent, ForeignControl, WireLimit}
use Rattle.vx_plans.specs.declared.head.ArrayHead.{ArrayHead}

-- The children of a node of this encoding and head are to stand at these places.
abbrev pub IsPlanned : ExtMeaning → Encoding → ArrayHead → List Place → Type 0
IsPlanned x e h ps = PlansChildren codec x (plain_encoding e) (typ h.dtype) h.len h.metadata h.nchildren ps

-- No children are planned: allocation failed, the metadata is none of the encoding's, or the type or the number of
-- children does not fit.
abbrev pub RefusesPlanning : EncodingError → ExtMeaning → Encoding → ArrayHead → Type 0
RefusesPlanning OutOfMemory x e h = Unit {0}
RefusesPlanning BadMetadata x e h = HasNoMetadata codec x (plain_encoding e) (typ h.dtype) h.metadata
RefusesPlanning BadShape x e h = HasNoPlan codec x (plain_encoding e) (typ h.dtype) h.len h.metadata h.nchildren
RefusesPlanning BadContent x e h = ⊥
RefusesPlanning ForeignControl x e h = ⊥
RefusesPlanning WireLimit x e h = ⊥

-- An array is the node of this encoding, head, buffers and children.
abbrev pub IsBuilt : ExtMeaning → Encoding → ArrayHead → List Buffer → Trees → Tree → Type 0
IsBuilt x e h bs ts t = HasParts codec x (plain_encoding e) (typ h.dtype) h.len h.metadata bs ts t

-- No node is built of a planned one's parts: allocation failed, the shape does not fit, a child that says where rows
-- are is a foreign node, or the content is broken where the shape fits and no such node stands there. That the metadata
-- is the encoding's was judged where the children were planned.
abbrev pub RefusesBuilding : EncodingError → ExtMeaning → Encoding → ArrayHead → List Buffer → Trees → Type 0
RefusesBuilding OutOfMemory x e h bs ts = Unit {0}
RefusesBuilding BadMetadata x e h bs ts = ⊥
RefusesBuilding BadShape x e h bs ts = HasWrongShape codec x (plain_encoding e) (typ h.dtype) h.len h.metadata bs ts
RefusesBuilding BadContent x e h bs ts = HasWrongContent codec x (plain_encoding e) (typ h.dtype) h.len h.metadata bs ts
RefusesBuilding ForeignControl x e h bs ts = HasWrongControl codec x (plain_encoding e) (typ h.dtype) h.len h.metadata ts
RefusesBuilding WireLimit x e h bs ts = ⊥

-- No metadata is written of a root: allocation failed, or the metadata does not fit its message.
abbrev pub RefusesWritingMetadata : EncodingError → Tree → Type 0
RefusesWritingMetadata OutOfMemory t = Unit {0}
RefusesWritingMetadata BadMetadata t = ⊥
RefusesWritingMetadata BadShape t = ⊥
RefusesWritingMetadata BadContent t = ⊥
RefusesWritingMetadata ForeignControl t = ⊥
RefusesWritingMetadata WireLimit t = HasMessage (label t) (below t) → ⊥

-- This refusal is `OutOfMemory`.
abbrev pub IsMemory : EncodingError → Type 0
IsMemory OutOfMemory = Unit {0}
IsMemory BadMetadata = ⊥
IsMemory BadShape = ⊥
IsMemory BadContent = ⊥
IsMemory ForeignControl = ⊥
IsMemory WireLimit = ⊥

-- The result is Ok, or `OutOfMemory`.
abbrev pub IsOkOrMemory : {A : Type 0} → Result A EncodingError → Type 0
IsOkOrMemory (Ok r) = Unit {0}
IsOkOrMemory (Err e) = IsMemory e

-- A constructor of arrays reads no row and merges nothing, so none of its refusals is one of a row or of a merge.
abbrev pub IsOfConstructor : ArrayError → Type 0
IsOfConstructor A.OutOfMemory = Unit {0}
IsOfConstructor A.BadShape = Unit {0}
IsOfConstructor A.BadContent = Unit {0}
IsOfConstructor A.ForeignControl = Unit {0}
IsOfConstructor A.ValueTooLarge = ⊥
IsOfConstructor A.BadCast = ⊥

-- A constructor's refusal as one of its encoding.
abbrev pub constructor_error : ArrayError → EncodingError
constructor_error A.OutOfMemory = OutOfMemory
constructor_error A.BadShape = BadShape
constructor_error A.BadContent = BadContent
constructor_error A.ForeignControl = ForeignControl
constructor_error A.ValueTooLarge = OutOfMemory
constructor_error A.BadCast = OutOfMemory

-- A message is not read: allocation failed, or the bytes show none.
abbrev pub RefusesMetadata : EncodingError → Schema → ℕ → List ℕ → Type 0
RefusesMetadata OutOfMemory schema place bytes = Unit {0}
RefusesMetadata BadMetadata schema place bytes = (v : Value) → Reads schema place bytes v → ⊥
RefusesMetadata BadShape schema place bytes = ⊥
RefusesMetadata BadContent schema place bytes = ⊥
RefusesMetadata ForeignControl schema place bytes = ⊥
RefusesMetadata WireLimit schema place bytes = ⊥

-- A message's refusal as one of its encoding.
abbrev pub message_error : ProtoError → EncodingError
message_error P.OutOfMemory = OutOfMemory
message_error P.BadMessage = BadMetadata
message_error P.TooDeep = BadMetadata
message_error P.OutOfRange = BadMetadata
