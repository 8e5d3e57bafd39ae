-- The message of the metadata of dictionaries.
use Rattle.std.specs.Prelude.{◌≡◌, ℕ, zero, suc, nat_lt, Bool, true, false, Option, unwrap_or, List, [], ◌∷◌, refl}
use Rattle.std.proofs.Common.{ap, arith}
use Rattle.vx_numbers.specs.Numbers.{code_of}
use Rattle.vx_types.specs.Typ.{Typ}
use Rattle.vx_proto.specs.declared.schema.ScalarKind.TheVariants.{Uint32, Enum, Flag}
use Rattle.vx_proto.specs.Form.{HasForm}
use Rattle.vx_proto.specs.Parts.{flag_number}
use Rattle.vx_proto.specs.Reads.{Reads}
use Rattle.vx_proto.specs.Schema.{Schema, list_at, plain, optional}
use Rattle.vx_proto.specs.Value.{Content, Value, number}
use Rattle.vx_proto.specs.Written.{written}
use Rattle.vx_proto.proofs.LawsOfParts.{Held, Parts, Both, IfStands, InRange, ◌and◌, flag_range, nothing, numbers, optional_part, plain_part, seen_as, slot_with}
use Rattle.vx_array_tree.specs.Encodings.Dicts as Dicts
use Rattle.vx_wire_tree.specs.Fields.{Fields, DictFields, codes_nullability}
use Rattle.vx_wire_tree.specs.Fields as F
use Rattle.vx_encodings.specs.VarBinMessage.{one_kind_of_code}

-- It has two numbers, the number of values and the code of the kind of the codes, one of eleven; and two flags, each of
-- which may be absent.
abbrev pub dict_schema : Schema
dict_schema = (plain 1 Uint32 ∷ plain 2 (Enum 11) ∷ optional 3 Flag ∷ optional 4 Flag ∷ []) ∷ []

-- A number as a flag: whether it is not 0.
abbrev pub flag_of : ℕ → Bool
flag_of n = nat_lt 0 n

pub flag_back : (b : Bool) → flag_of (flag_number b) ≡ b
flag_back true = refl
flag_back false = refl

pub flag_again : (n : ℕ) → InRange (numbers Flag tt) n → flag_number (flag_of n) ≡ n
flag_again zero r = refl
flag_again (suc zero) r = refl
flag_again (suc (suc n)) r = absurd (omega (arith, flag_range (suc (suc n)) r))

-- The values of a flag.
abbrev pub flags : Held Flag Bool
flags = seen_as (numbers Flag tt) flag_number flag_of flag_back flag_again

-- Its slots as numbers and flags.
abbrev pub dict_parts : Parts (HasForm dict_schema) (list_at dict_schema 0) (ℕ × (ℕ × (Option Bool × (Option Bool × Unit {0}))))
    (Both (InRange (numbers Uint32 tt)) (Both (InRange (numbers (Enum 11) tt)) (Both (IfStands (InRange flags)) (Both (IfStands (InRange flags)) (λ _. Unit {0})))))
dict_parts = plain_part 1 (numbers Uint32 tt) and plain_part 2 (numbers (Enum 11) tt) and optional_part 3 flags and optional_part 4 flags and nothing

-- A flag as what a member holds.
abbrev pub flag_content : Bool → Content
flag_content b = number (flag_number b)

-- The plain value of the message of these fields.
abbrev pub dict_value : DictFields → Value
dict_value f = ((1, number f.values_len) ∷ []) ∷ ((2, number (code_of f.codes_ptype)) ∷ []) ∷ slot_with flag_content 3 f.is_nullable_codes ∷ slot_with flag_content 4 f.all_values_referenced ∷ []

-- Bytes show these fields where they are read as their message.
pub record ShowsDict (bytes : List ℕ) (f : Fields) : Type 0 where
  pub fields : DictFields
  pub reads : Reads dict_schema 0 bytes (dict_value fields)
  pub fields_are : f ≡ F.dict fields

-- The bytes of their message. (For more values than the message counts, any bytes will do.)
abbrev pub dict_bytes : DictFields → List ℕ
dict_bytes f = written dict_schema 0 (dict_value f)

-- The metadata of these fields, for a node of a type.
abbrev pub kept_of : Typ → DictFields → Dicts.Metadata
kept_of d f = record {
  values_len = f.values_len;
  codes_ptype = f.codes_ptype;
  nullable_codes = codes_nullability d f.is_nullable_codes;
  all_values_referenced = unwrap_or f.all_values_referenced false;
}

-- A plain value is that of one set of fields.
pub same_dict : (f g : DictFields) → dict_value f ≡ dict_value g → f ≡ g
same_dict f g e =
    let s = dict_parts.same (f.values_len, (code_of f.codes_ptype, (f.is_nullable_codes, (f.all_values_referenced, tt)))) (g.values_len, (code_of g.codes_ptype, (g.is_nullable_codes, (g.all_values_referenced, tt)))) e in
    let n : f.values_len ≡ g.values_len = ap (λ (x : ℕ × (ℕ × (Option Bool × (Option Bool × Unit {0})))). x.0) s in
    let p : f.codes_ptype ≡ g.codes_ptype = one_kind_of_code f.codes_ptype g.codes_ptype (ap (λ (x : ℕ × (ℕ × (Option Bool × (Option Bool × Unit {0})))). x.1.0) s) in
    let a : f.is_nullable_codes ≡ g.is_nullable_codes = ap (λ (x : ℕ × (ℕ × (Option Bool × (Option Bool × Unit {0})))). x.1.1.0) s in
    let b : f.all_values_referenced ≡ g.all_values_referenced = ap (λ (x : ℕ × (ℕ × (Option Bool × (Option Bool × Unit {0})))). x.1.1.1.0) s in
    λ i. record { values_len = n i; codes_ptype = p i; is_nullable_codes = a i; all_values_referenced = b i }
