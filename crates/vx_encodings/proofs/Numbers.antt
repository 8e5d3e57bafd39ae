-- Messages of one number: bytes show at most one, and what is written of a small number is shown.
use Rattle.std.proofs.Common.{ℕ, ◌≡◌, refl, sym, ap, ◌∙◌, ◌^◌, ◌≤◌, ◌<◌, ◌==◌, ◌++◌, Bool, true, false, if◌then◌else◌, List, [], length, length-append, IsTrue, arith}
use Rattle.vx_proto.specs.declared.schema.ScalarKind.{ScalarKind}
use Rattle.vx_proto.specs.declared.schema.ScalarKind.TheVariants.{Uint32, Enum}
use Rattle.vx_proto.specs.Form.{HasForm, FormScalar}
use Rattle.vx_proto.specs.Lawful.{is_lawful}
use Rattle.vx_proto.specs.Reads.{Reads}
use Rattle.vx_proto.specs.Value.{number}
use Rattle.vx_proto.specs.Written.{written, varint_bytes}
use Rattle.vx_proto.proofs.LawsOfMessages.{reads_one, written_shown}
use Rattle.vx_proto.proofs.LawsOfParts.{IsNumeric, whole_form}
use Rattle.vx_proto.proofs.LawsOfBytes.{varint_spelled}
use Rattle.vx_wire_tree.specs.Fields.{Fields}
use Rattle.vx_encodings.specs.NumberMessage.{number_schema, number_parts, number_value, number_bytes, same_value, ShowsCoded}

-- Bytes show one number at most.
pub one_number : (k : ScalarKind) (bytes : List ℕ) (a b : ℕ) → Reads (number_schema k) 0 bytes (number_value a) → Reads (number_schema k) 0 bytes (number_value b) → a ≡ b
one_number k bytes a b r s = same_value a b (reads_one (number_schema k) 0 bytes (number_value a) (number_value b) r s)

-- A number in the range of its kind has the form of a message.
pub number_formed : (k : ScalarKind) (h : IsNumeric k) (n : ℕ) → FormScalar k (number n) → HasForm (number_schema k) 0 (number_value n)
number_formed k h n f = whole_form (number_schema k) 0 (number_parts k h) (n, tt) (f, tt)

-- The kinds that metadata has, whose numbers are written as varints without a conversion.
abbrev pub IsSpelled : ScalarKind → Type 0
IsSpelled Uint32 = Unit {0}
IsSpelled (Enum codes) = Unit {0}
IsSpelled _ = ⊥

-- A number is written as a key and a varint at most.
left_out : (b : Bool) (s : List ℕ) → length ((if b then [] else s) ++ [] ++ []) ≤ length s
left_out true s = omega arith
left_out false s = omega (arith, length-append s [], length-append (s ++ []) [])

short : (k : ScalarKind) (n : ℕ) → IsSpelled k → n < 256 → length (number_bytes k n) < 2 ^ 64
unfolding written
short Uint32 n h lt =
    let s = varint_bytes 8 ++ varint_bytes n in
    let few : length (number_bytes Uint32 n) ≤ length s = left_out (n == 0) s in
    omega (arith, length-append (varint_bytes 8) (varint_bytes n), (varint_spelled 8 (omega arith)).short, (varint_spelled n (omega arith)).short)
short (Enum codes) n h lt =
    let s = varint_bytes 8 ++ varint_bytes n in
    let few : length (number_bytes (Enum codes) n) ≤ length s = left_out (n == 0) s in
    omega (arith, length-append (varint_bytes 8) (varint_bytes n), (varint_spelled 8 (omega arith)).short, (varint_spelled n (omega arith)).short)
short _ n h lt = absurd h

-- What is written of a number below 256 is read as it.
pub number_again : (k : ScalarKind) (h : IsNumeric k) (n : ℕ) → IsSpelled k → IsTrue (is_lawful (number_schema k)) → FormScalar k (number n) → n < 256 → Reads (number_schema k) 0 (number_bytes k n) (number_value n)
number_again k h n s lawful f lt = written_shown (number_schema k) 0 (number_value n) lawful (number_formed k h n f) (omega arith) (short k n s lt)

module _ {A : Type 0} (code : A → ℕ) (codes : ℕ) (fields_of : A → Fields) where
  -- Bytes are read as the message of one thing at most, where each code is that of one.
  pub one_coded_read : ((x y : A) → code x ≡ code y → x ≡ y) → (bytes : List ℕ) (x y : A)
      → Reads (number_schema (Enum codes)) 0 bytes (number_value (code x)) → Reads (number_schema (Enum codes)) 0 bytes (number_value (code y)) → x ≡ y
  one_coded_read one bytes x y r s = one x y (one_number (Enum codes) bytes (code x) (code y) r s)

  -- So they show the fields of one thing at most.
  pub one_coded : ((x y : A) → code x ≡ code y → x ≡ y) → (bytes : List ℕ) (f g : Fields) → ShowsCoded code codes fields_of bytes f → ShowsCoded code codes fields_of bytes g → f ≡ g
  one_coded one bytes f g a b = a.fields_are ∙ ap (λ (x : A). fields_of x) (one_coded_read one bytes a.coded b.coded a.reads b.reads) ∙ sym b.fields_are

  -- What is written of a thing is read as it, where the codes are few.
  pub coded_again : IsTrue (is_lawful (number_schema (Enum codes))) → codes < 256 → (x : A) → code x < codes → ShowsCoded code codes fields_of (number_bytes (Enum codes) (code x)) (fields_of x)
  coded_again lawful few x lt = record {
    coded = x;
    reads = number_again (Enum codes) tt (code x) tt lawful (code x, refl, lt) (omega (arith, lt, few));
    fields_are = refl;
  }
