-- The message of a value that is well has the form of the schema.
use Rattle.std.specs.Int.{w8, w16, w32, w64}
use Rattle.std.proofs.Common.{◌≡◌, Bool, true, false, ℕ, ◌<◌, ◌^◌, ℤ, pos, negsuc, List, [], ◌∷◌, Some, refl, arith}
use Rattle.std.specs.Prelude.{FitsSigned}
use Rattle.std.proofs.lemmas.Int.{ints}
use Rattle.std.proofs.lemmas.Str.{IsUtf8-from_is_utf8}
use Rattle.vx_trees.specs.Rose.{node, end, more}
use Rattle.vx_proto.specs.Form.{FormSlots, FormContent, HasForm}
use Rattle.vx_proto.specs.Parts.{flag_number}
use Rattle.vx_proto.specs.Repeated.{as_message}
use Rattle.vx_proto.specs.Schema.{kind_in, nested, repeated}
use Rattle.vx_proto.specs.Signed.{zigzag}
use Rattle.vx_proto.specs.Value.{Content, Value, number, octets, message, slots_of}
use Rattle.vx_proto.specs.declared.schema.Kind.{Kind}
use Rattle.vx_proto.specs.declared.schema.Kind.TheVariants.{Scalar, Message}
use Rattle.vx_proto.specs.declared.schema.ScalarKind.TheVariants.{Uint32, Uint64, Sint64, Flag, Enum, Fixed32, Fixed64, String, Bytes}
use Rattle.vx_proto.proofs.LawsOfForms.{form_of_slots, same_form}
use Rattle.vx_proto.proofs.LawsOfSlots.{Has, Each, has_plain, has_nested, has_none, has_repeated, form_one, form_two}
use Rattle.vx_type_wire.specs.TypeMessage.{type_lists, type_lists_lawful, type_message, first_message, all_messages}
use Rattle.vx_type_wire.proofs.LawsTypes.{type_form}
use Rattle.vx_types.specs.Typ.{Typ, IsType}
use Rattle.vx_types.specs.Value as V
use Rattle.vx_types.specs.Value.{Mark}
use Rattle.vx_types.specs.Well.{IsInRange, IsWellMark, IsWell, AreWell}
use Rattle.vx_numbers.specs.declared.value.PValue.{PValue}
use Rattle.vx_numbers.specs.declared.value.PValue.TheVariants.{U8, U16, U32, U64, I8, I16, I32, I64, F16, F32, F64}
use Rattle.vx_scalars.specs.Told.{Typed}
use Rattle.vx_scalar_wire.specs.Typed.{IsTyped}
use Rattle.vx_scalar_wire.specs.ScalarMessage.{value_members, scalar_list, value_list, list_list, union_list, scalar_lists, number_member, decimal_bytes, member_of, value_message, value_messages, scalar_message}

abbrev F : ℕ → Value → Type 0
F = HasForm scalar_lists

-- ---- numbers

zig8 : (z : ℤ) → FitsSigned w8 z → zigzag z < 2 ^ 64
zig8 (pos n) h = grind (arith, ints)
zig8 (negsuc n) h = grind (arith, ints)

zig16 : (z : ℤ) → FitsSigned w16 z → zigzag z < 2 ^ 64
zig16 (pos n) h = grind (arith, ints)
zig16 (negsuc n) h = grind (arith, ints)

zig32 : (z : ℤ) → FitsSigned w32 z → zigzag z < 2 ^ 64
zig32 (pos n) h = grind (arith, ints)
zig32 (negsuc n) h = grind (arith, ints)

zig64 : (z : ℤ) → FitsSigned w64 z → zigzag z < 2 ^ 64
zig64 (pos n) h = grind (arith, ints)
zig64 (negsuc n) h = grind (arith, ints)

flag_small : (b : Bool) → flag_number b < 2
flag_small true = omega arith
flag_small false = omega arith

-- ---- one member

one_form : (n : ℕ) (c : Content) (k : Kind) → kind_in value_members n ≡ Some k → FormContent F k c → FormSlots F value_list (((n, c) ∷ []) ∷ [])
one_form n c k e f = ((n, c) ∷ [], [], refl, omega arith, ((k, e, f), tt), refl)

numeral_form : (n : PValue) → IsInRange n → FormSlots F value_list (number_member n ∷ [])
numeral_form (U8 n) h = one_form 4 (number n) (Scalar Uint64) refl (n, refl, omega (arith, h))
numeral_form (U16 n) h = one_form 4 (number n) (Scalar Uint64) refl (n, refl, omega (arith, h))
numeral_form (U32 n) h = one_form 4 (number n) (Scalar Uint64) refl (n, refl, omega (arith, h))
numeral_form (U64 n) h = one_form 4 (number n) (Scalar Uint64) refl (n, refl, h)
numeral_form (I8 z) h = one_form 3 (number (zigzag z)) (Scalar Sint64) refl (zigzag z, refl, zig8 z h)
numeral_form (I16 z) h = one_form 3 (number (zigzag z)) (Scalar Sint64) refl (zigzag z, refl, zig16 z h)
numeral_form (I32 z) h = one_form 3 (number (zigzag z)) (Scalar Sint64) refl (zigzag z, refl, zig32 z h)
numeral_form (I64 z) h = one_form 3 (number (zigzag z)) (Scalar Sint64) refl (zigzag z, refl, zig64 z h)
numeral_form (F16 n) h = one_form 10 (number n) (Scalar Uint64) refl (n, refl, omega (arith, h))
numeral_form (F32 n) h = one_form 5 (number n) (Scalar Fixed32) refl (n, refl, h)
numeral_form (F64 n) h = one_form 6 (number n) (Scalar Fixed64) refl (n, refl, h)

-- ---- messages

-- A type's message has its form here, too.
pub type_formed : (d : Typ) → IsType d → F 0 (type_message d)
type_formed d h = (same_form type_lists (scalar_list ∷ value_list ∷ list_list ∷ union_list ∷ []) 0 (type_message d) type_lists_lawful (omega arith)).0 (type_form d h)

first : (vs : List Value) → Each (F 15) vs → Has F (nested 2 15) (first_message 2 vs)
first [] r = has_none F 2 15
first (v ∷ vs) r = has_nested F 2 15 v r.0

each_message : (vs : List Value) → Each (F 15) vs → Each (λ v. (w : Value) × (message (slots_of v) ≡ message (slots_of w)) × F 15 w) vs
each_message [] r = tt
each_message (v ∷ vs) r = ((v, refl, r.0), each_message vs r.1)

all : (vs : List Value) → Each (F 15) vs → Has F (repeated 1 (Message 15)) (all_messages 1 vs)
all vs r = has_repeated F 1 (Message 15) (as_message (λ v. v)) vs (each_message vs r)

member_form : (m : Mark) (vs : List Value) → IsWellMark m → Each (F 15) vs → FormSlots F value_list (member_of m vs ∷ [])
member_form V.null vs h r = one_form 1 (number 0) (Scalar (Enum 1)) refl (0, refl, omega arith)
member_form V.opaque vs h r = ([], [], refl, omega arith, tt, refl)
member_form (V.bool b) vs h r = one_form 2 (number (flag_number b)) (Scalar Flag) refl (flag_number b, refl, flag_small b)
member_form (V.number n) vs h r = numeral_form n h
member_form (V.decimal x) vs h r = one_form 8 (octets (decimal_bytes x)) (Scalar Bytes) refl (decimal_bytes x, refl)
member_form (V.utf8 s) vs h r = one_form 7 (octets s) (Scalar String) refl (s, refl, IsUtf8-from_is_utf8 s h)
member_form (V.binary s) vs h r = one_form 8 (octets s) (Scalar Bytes) refl (s, refl)
member_form V.tuple vs h r =
    let v : Value = all_messages 1 vs ∷ [] in
    one_form 9 (message (slots_of v)) (Message 16) refl (v, refl, form_of_slots scalar_lists 16 v (form_one (all vs r)))
member_form (V.union tag) vs h r =
    let v : Value = ((1, number tag) ∷ []) ∷ first_message 2 vs ∷ [] in
    one_form 11 (message (slots_of v)) (Message 17) refl (v, refl, form_of_slots scalar_lists 17 v (form_two (has_plain F 1 Uint32 (number tag) (tag, refl, omega (arith, h))) (first vs r)))
member_form (V.variant d) vs h r =
    let v : Value = ((1, message (slots_of (type_message d))) ∷ []) ∷ first_message 2 vs ∷ [] in
    one_form 12 (message (slots_of v)) (Message 14) refl (v, refl, form_of_slots scalar_lists 14 v (form_two (has_nested F 1 0 (type_message d) (type_formed d h)) (first vs r)))

mutual
  pub value_form : (v : V.Value) → IsWell v → HasForm scalar_lists 15 (value_message v)
  value_form (node m vs) h = form_of_slots scalar_lists 15 (value_message (node m vs)) (member_form m (value_messages vs) h.0 (values_form vs h.1))

  values_form : (vs : V.Values) → AreWell vs → Each (F 15) (value_messages vs)
  values_form end h = tt
  values_form (more v vs) h = (value_form v h.0, values_form vs h.1)

pub scalar_form : (s : Typed) → IsTyped s → HasForm scalar_lists 14 (scalar_message s)
scalar_form s h =
    form_of_slots scalar_lists 14 (scalar_message s)
    (form_two (has_nested F 1 0 (type_message s.dtype) (type_formed s.dtype h.is_type)) (has_nested F 2 15 (value_message s.value) (value_form s.value h.well)))
