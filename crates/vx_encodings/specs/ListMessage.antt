-- The message of the metadata of lists.
use Rattle.std.specs.Prelude.{ℕ, ◌≡◌, List, [], ◌∷◌}
use Rattle.std.proofs.Common.{ap}
use Rattle.vx_numbers.specs.Numbers.{code_of}
use Rattle.vx_numbers.specs.declared.ptype.PType.{PType}
use Rattle.vx_proto.specs.declared.schema.ScalarKind.TheVariants.{Uint64, Enum}
use Rattle.vx_proto.specs.Form.{HasForm}
use Rattle.vx_proto.specs.Reads.{Reads}
use Rattle.vx_proto.specs.Schema.{Schema, list_at, plain}
use Rattle.vx_proto.specs.Value.{Value, number}
use Rattle.vx_proto.specs.Written.{written}
use Rattle.vx_proto.proofs.LawsOfParts.{Parts, Both, InRange, ◌and◌, nothing, numbers, plain_part}
use Rattle.vx_wire_tree.specs.Fields.{Fields}
use Rattle.vx_wire_tree.specs.Fields as F
use Rattle.vx_encodings.specs.VarBinMessage.{one_kind_of_code}

-- It has two numbers: the number of elements, and the code of the kind of the offsets, one of eleven.
abbrev pub list_schema : Schema
list_schema = (plain 1 Uint64 ∷ plain 2 (Enum 11) ∷ []) ∷ []

-- Its slots as numbers.
abbrev pub list_parts : Parts (HasForm list_schema) (list_at list_schema 0) (ℕ × (ℕ × Unit {0})) (Both (InRange (numbers Uint64 tt)) (Both (InRange (numbers (Enum 11) tt)) (λ _. Unit {0})))
list_parts = plain_part 1 (numbers Uint64 tt) and plain_part 2 (numbers (Enum 11) tt) and nothing

-- The plain value of the message of a number of elements and a kind.
abbrev pub list_value : ℕ → PType → Value
list_value n p = ((1, number n) ∷ []) ∷ ((2, number (code_of p)) ∷ []) ∷ []

-- Bytes show these where they are read as their message.
pub record ShowsList (bytes : List ℕ) (f : Fields) : Type 0 where
  pub elements_len : ℕ
  pub offset_ptype : PType
  pub reads : Reads list_schema 0 bytes (list_value elements_len offset_ptype)
  pub fields_are : f ≡ F.list elements_len offset_ptype

-- The bytes of their message. A field of 0 is left out, since that is its default.
abbrev pub list_bytes : ℕ → PType → List ℕ
list_bytes n p = written list_schema 0 (list_value n p)

-- A plain value is that of one number of elements and one kind.
pub same_count : (n m : ℕ) (p q : PType) → list_value n p ≡ list_value m q → n ≡ m
same_count n m p q e = ap (λ (x : ℕ × (ℕ × Unit {0})). x.0) (list_parts.same (n, (code_of p, tt)) (m, (code_of q, tt)) e)

pub same_kinds : (n m : ℕ) (p q : PType) → list_value n p ≡ list_value m q → p ≡ q
same_kinds n m p q e = one_kind_of_code p q (ap (λ (x : ℕ × (ℕ × Unit {0})). x.1.0) (list_parts.same (n, (code_of p, tt)) (m, (code_of q, tt)) e))
