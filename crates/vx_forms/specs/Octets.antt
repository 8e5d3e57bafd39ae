-- Bytes and texts after their length, a number in four bytes.
use Rattle.std.specs.Prelude.{ℕ, ◌≡◌, ◌<◌, ◌^◌, List, ◌++◌, length, IsTrue}
use Rattle.std.specs.Str.{is_utf8}
use Rattle.vx_forms.specs.Form.{and_then, Form}
use Rattle.vx_forms.specs.Numbers.{uint32, count, is_within, front_bytes}
use Rattle.vx_forms.specs.Tested.{tested}

-- Bytes are others after their length, which lies between two limits.
pub record ShowsOctets (low high : ℕ) (xs bytes : List ℕ) : Type 0 where
  pub word : List ℕ
  pub parts : bytes ≡ word ++ xs
  pub counted : (count low high).Shows (length xs) word

-- Bytes after their length.
abbrev pub octets_written : List ℕ → List ℕ
octets_written xs = uint32.write (length xs) ++ xs

-- From low to high bytes after their length. The length is judged before the bytes are there.
abbrev pub octets : ℕ → ℕ → Form (List ℕ)
octets low high = record {
  Shows = ShowsOctets low high;
  Fits = λ xs. IsTrue (is_within low high (length xs)) × (length xs < 2 ^ 32);
  write = octets_written;
  read = λ bytes. and_then ((count low high).read bytes) front_bytes;
}

-- A text of low to high bytes of UTF-8, after that length. It is judged when its bytes are there.
abbrev pub text : ℕ → ℕ → Form (List ℕ)
text low high = tested is_utf8 (octets low high)
