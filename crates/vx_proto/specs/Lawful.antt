-- The lawfulness of a schema, as a test that computes, so that a type proves it of its schema by `refl`.
use Rattle.std.specs.Prelude.{ℕ, ◌+◌, ◌^◌, Bool, true, ◌&&◌, nat_lt, nat_le, List, [], ◌∷◌, ◌++◌, length}
use Rattle.vx_proto.specs.declared.schema.ScalarKind.{ScalarKind}
use Rattle.vx_proto.specs.declared.schema.ScalarKind.TheVariants.{Enum}
use Rattle.vx_proto.specs.declared.schema.Kind.{Kind}
use Rattle.vx_proto.specs.declared.schema.Kind.TheVariants.{Scalar, Message}
use Rattle.vx_proto.specs.declared.schema.Member.{Member}
use Rattle.vx_proto.specs.Schema.{Slot, Schema, members_of}

-- The field numbers of a slot's members, as they are listed.
abbrev pub member_numbers : List Member → List ℕ
member_numbers [] = []
member_numbers (m ∷ ms) = m.number ∷ member_numbers ms

-- The field numbers of a message, slot after slot.
abbrev pub field_numbers : List Slot → List ℕ
field_numbers [] = []
field_numbers (s ∷ ss) = member_numbers (members_of s) ++ field_numbers ss

-- Numbers that are at least a bound, each greater than the one before, and each below 2 ^ 29, as field numbers are.
abbrev pub is_ascending : ℕ → List ℕ → Bool
is_ascending least [] = true
is_ascending least (n ∷ ns) = nat_le least n && nat_lt n (2 ^ 29) && is_ascending (n + 1) ns

-- An enum has at least the code 0, which is its default, and codes below 2 ^ 32.
abbrev pub is_scalar : ScalarKind → Bool
is_scalar (Enum codes) = nat_lt 0 codes && nat_le codes (2 ^ 32)
is_scalar k = true

-- A nested message has its list among those of the schema.
abbrev pub is_kind : ℕ → Kind → Bool
is_kind count (Message place) = nat_lt place count
is_kind count (Scalar k) = is_scalar k

-- Each member of a slot is of such a kind.
abbrev pub are_kinds : ℕ → List Member → Bool
are_kinds count [] = true
are_kinds count (m ∷ ms) = is_kind count m.kind && are_kinds count ms

-- Each slot of a message has members of lawful kinds.
abbrev pub are_slots : ℕ → List Slot → Bool
are_slots count [] = true
are_slots count (s ∷ ss) = are_kinds count (members_of s) && are_slots count ss

-- A message has at most 1,000 fields, with ascending numbers from 1 on: so no number stands twice.
abbrev pub is_lawful_list : ℕ → List Slot → Bool
is_lawful_list count l = is_ascending 1 (field_numbers l) && nat_le (length (field_numbers l)) 1000 && are_slots count l

-- Each of these messages is lawful.
abbrev pub are_lawful : ℕ → List (List Slot) → Bool
are_lawful count [] = true
are_lawful count (l ∷ ls) = is_lawful_list count l && are_lawful count ls

-- Each message of the schema is lawful, where places are below the number of its messages.
abbrev pub is_lawful : Schema → Bool
is_lawful schema = are_lawful (length schema) schema
