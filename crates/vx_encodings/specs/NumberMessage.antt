-- Messages of one number.
use Rattle.std.specs.Prelude.{ℕ, ◌≡◌, List, [], ◌∷◌}
use Rattle.std.proofs.Common.{sym, ap, ◌∙◌}
use Rattle.vx_proto.specs.declared.schema.ScalarKind.{ScalarKind}
use Rattle.vx_proto.specs.declared.schema.ScalarKind.TheVariants.{Enum, Uint64}
use Rattle.vx_proto.specs.Form.{HasForm}
use Rattle.vx_proto.specs.Reads.{Reads}
use Rattle.vx_proto.specs.Schema.{Schema, list_at, plain}
use Rattle.vx_proto.specs.Value.{Value, number}
use Rattle.vx_proto.specs.Written.{written}
use Rattle.vx_wire_tree.specs.Fields.{Fields}
use Rattle.vx_proto.proofs.LawsOfParts.{Parts, Both, InRange, IsNumeric, ◌and◌, nothing, numbers, plain_part}

-- The first field is a number of a kind, and there is no other field.
abbrev pub number_schema : ScalarKind → Schema
number_schema k = (plain 1 k ∷ []) ∷ []

-- Its slot as a number.
abbrev pub number_parts : (k : ScalarKind) (h : IsNumeric k) → Parts (HasForm (number_schema k)) (list_at (number_schema k) 0) (ℕ × Unit {0}) (Both (InRange (numbers k h)) (λ _. Unit {0}))
number_parts k h = plain_part 1 (numbers k h) and nothing

-- The plain value of the message of a number.
abbrev pub number_value : ℕ → Value
number_value n = ((1, number n) ∷ []) ∷ []

-- The bytes of the message of a number: none at 0, which is the default.
abbrev pub number_bytes : ScalarKind → ℕ → List ℕ
number_bytes k n = written (number_schema k) 0 (number_value n)

-- A plain value is that of one number.
pub same_value : (a b : ℕ) → number_value a ≡ number_value b → a ≡ b
same_value a b e = ap (λ (x : ℕ × Unit {0}). x.0) ((number_parts Uint64 tt).same (a, tt) (b, tt) e)

-- A message of one code, of as many as there are. Bytes show a thing that has a code where they are read as the message
-- of that code; the fields are those of the thing.
pub record ShowsCoded {A : Type 0} (code : A → ℕ) (codes : ℕ) (fields_of : A → Fields) (bytes : List ℕ) (f : Fields) : Type 0 where
  pub coded : A
  pub reads : Reads (number_schema (Enum codes)) 0 bytes (number_value (code coded))
  pub fields_are : f ≡ fields_of coded

-- Where a code leads back to the thing that has it, each code is that of one thing.
pub one_of_code : {A : Type 0} (code : A → ℕ) (back : ℕ → A) → ((x : A) → back (code x) ≡ x) → (x y : A) → code x ≡ code y → x ≡ y
one_of_code code back again x y e = sym (again x) ∙ ap back e ∙ again y
