-- Schemas: the messages that a type has, each by its slots.
use Rattle.std.specs.Prelude.{ℕ, ◌==◌, Bool, if◌then◌else◌, List, [], ◌∷◌, map, get_or, Option, Some, None, is_some}
use Rattle.vx_proto.specs.declared.schema.ScalarKind.{ScalarKind}
use Rattle.vx_proto.specs.declared.schema.ScalarKind.TheVariants.{Fixed32, Fixed64, String, Bytes}
use Rattle.vx_proto.specs.declared.schema.Kind.{Kind}
use Rattle.vx_proto.specs.declared.schema.Kind.TheVariants.{Scalar, Message}
use Rattle.vx_proto.specs.declared.schema.Member.{Member}
use Rattle.vx_proto.specs.declared.schema.Slot.{Slot as CodeSlot}
use Rattle.vx_proto.specs.declared.schema.Slot.TheVariants as code
use Rattle.vx_proto.specs.declared.schema.Schema.{Schema as CodeSchema}

-- What a message keeps of some members. Plain: the last occurrence of a number, a text or bytes, or the default; it is
-- not written at the default. Optional: the last occurrence, or none. A oneof: the one member of these that occurs, or
-- none; a message that need not stand is a oneof of that one member. Repeated: all occurrences.
pub data Slot : Type 0 where
  plain : ℕ → ScalarKind → Slot
  optional : ℕ → ScalarKind → Slot
  oneof : List Member → Slot
  repeated : ℕ → Kind → Slot

-- A schema: for each message, by its place, the slots in the order of their field numbers.
abbrev pub Schema : Type 0
Schema = List (List Slot)

-- A member: its field number and its kind.
abbrev pub field : ℕ → Kind → Member
field n k = record { number = n; kind = k }

-- A message that need not stand, by its place.
abbrev pub nested : ℕ → ℕ → Slot
nested n place = oneof (field n (Message place) ∷ [])

-- The members of a slot.
abbrev pub members_of : Slot → List Member
members_of (plain n k) = field n (Scalar k) ∷ []
members_of (optional n k) = field n (Scalar k) ∷ []
members_of (oneof ms) = ms
members_of (repeated n k) = field n k ∷ []

-- The slots of a message, by its place in the schema; none past the last.
abbrev pub list_at : Schema → ℕ → List Slot
list_at schema place = get_or schema place []

-- The kind of the member of this number, if it is one of these.
abbrev pub kind_in : List Member → ℕ → Option Kind
kind_in [] n = None
kind_in (m ∷ ms) n = if m.number == n then Some m.kind else kind_in ms n

-- Whether a number is that of a member of the slot.
abbrev pub has : Slot → ℕ → Bool
has s n = is_some (kind_in (members_of s) n)

-- The kind of a field number: that of the first slot that has it; none where the field is unknown.
abbrev pub kind_of : List Slot → ℕ → Option Kind
kind_of [] n = None
kind_of (s ∷ ss) n = if has s n then kind_in (members_of s) n else kind_of ss n

-- The wire type of a kind: varint 0, I64 1, LEN 2, I32 5.
abbrev pub wire_of : Kind → ℕ
wire_of (Scalar Fixed32) = 5
wire_of (Scalar Fixed64) = 1
wire_of (Scalar String) = 2
wire_of (Scalar Bytes) = 2
wire_of (Scalar k) = 0
wire_of (Message place) = 2

-- ---- what the code holds

-- A slot of the code as a slot. Where its members lie in memory is not seen.
abbrev pub slot_view : CodeSlot → Slot
slot_view (code.Plain n k) = plain n k
slot_view (code.Optional n k) = optional n k
slot_view (code.OneOf ms) = oneof ms.now
slot_view (code.Repeated n k) = repeated n k

-- Slots of the code as slots.
abbrev pub list_view : List CodeSlot → List Slot
list_view list = map slot_view list

-- A schema of the code as a schema.
abbrev pub schema_view : CodeSchema → Schema
schema_view schema = map (λ l. list_view l.now) schema.messages.now
