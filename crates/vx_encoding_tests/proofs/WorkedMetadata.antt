-- The bytes of worked metadata, by the definitions of its messages.
use Rattle.std.specs.Prelude.{◌≡◌, [], ◌∷◌, Some, None, true, false, refl}
use Rattle.vx_numbers.specs.declared.decimal_type.DecimalType.TheVariants as D
use Rattle.vx_types.specs.declared.nullability.Nullability.TheVariants.{Nullable}
use Rattle.vx_numbers.specs.declared.ptype.PType.TheVariants as P
use Rattle.vx_types.specs.Kind.{primitive}
use Rattle.vx_trees.specs.Rose.{node, end}
use Rattle.vx_proto.specs.Written.{written, varint_bytes, counted}
use Rattle.vx_wire_tree.specs.Fields as F
use Rattle.vx_encodings.specs.Messages.{message_bytes}

-- An offset of 0, and the width or kind of the code 0, are defaults, of which nothing is written.
first_bit : message_bytes (F.bool 0) ≡ []
unfolding written varint_bytes counted
first_bit = refl

fifth_bit : message_bytes (F.bool 5) ≡ 8 ∷ 5 ∷ []
unfolding written varint_bytes counted
fifth_bit = refl

bytes_wide : message_bytes (F.decimal D.I8) ≡ []
unfolding written varint_bytes counted
bytes_wide = refl

sixteen_wide : message_bytes (F.decimal D.I128) ≡ 8 ∷ 4 ∷ []
unfolding written varint_bytes counted
sixteen_wide = refl

offsets_i32 : message_bytes (F.varbin P.I32) ≡ 8 ∷ 6 ∷ []
unfolding written varint_bytes counted
offsets_i32 = refl

three_values : message_bytes (F.dict (record { values_len = 3; codes_ptype = P.U8; is_nullable_codes = Some true; all_values_referenced = Some false })) ≡ 8 ∷ 3 ∷ 24 ∷ 1 ∷ 32 ∷ 0 ∷ []
unfolding written varint_bytes counted
three_values = refl

-- A flag that is absent is not written.
flags_absent : message_bytes (F.dict (record { values_len = 3; codes_ptype = P.U8; is_nullable_codes = None; all_values_referenced = None })) ≡ 8 ∷ 3 ∷ []
unfolding written varint_bytes counted
flags_absent = refl

three_elements : message_bytes (F.list 3 P.I32) ≡ 8 ∷ 3 ∷ 16 ∷ 6 ∷ []
unfolding written varint_bytes counted
three_elements = refl

viewed_elements : message_bytes (F.listview 3 P.U8 P.U8) ≡ 8 ∷ 3 ∷ []
unfolding written varint_bytes counted
viewed_elements = refl

no_type : message_bytes (F.variant None) ≡ []
unfolding written varint_bytes counted
no_type = refl

-- The type of a typed child, as a message in the message.
nullable_numbers : message_bytes (F.variant (Some (node (primitive P.I32 Nullable) end))) ≡ 10 ∷ 6 ∷ 26 ∷ 4 ∷ 8 ∷ 6 ∷ 16 ∷ 1 ∷ []
unfolding written varint_bytes counted
nullable_numbers = refl
