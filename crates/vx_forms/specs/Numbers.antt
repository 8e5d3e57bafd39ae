-- Unsigned numbers in one, four and eight bytes, lowest byte first.
use Rattle.std.specs.Prelude.{ℕ, ◌≡◌, ◌<◌, ◌^◌, List, [], ◌∷◌, length, take, drop, nat_lt, nat_le, Bool, ◌&&◌, if◌then◌else◌}
use Rattle.std.specs.Int.{Width, w32, w64, from_le_bytes, to_le_bytes}
use Rattle.vx_forms.specs.Form.{Answer, whole, short, answer_map, Form}
use Rattle.vx_forms.specs.Tested.{tested}

-- The first n bytes, and the rest.
abbrev pub front_bytes : ℕ → List ℕ → Answer (List ℕ)
front_bytes n bytes = if nat_lt (length bytes) n then short else whole (take n bytes) (drop n bytes)

-- The first byte, and the rest.
abbrev pub front_byte : List ℕ → Answer ℕ
front_byte [] = short
front_byte (b ∷ bs) = whole b bs

-- Bytes of this size are a number, lowest byte first.
pub record ShowsNumber (w : Width) (size n : ℕ) (bytes : List ℕ) : Type 0 where
  pub len : length bytes ≡ size
  pub value : from_le_bytes w bytes ≡ n

-- A number in one byte.
abbrev pub uint8 : Form ℕ
uint8 = record {
  Shows = λ n bytes. bytes ≡ n ∷ [];
  Fits = λ n. n < 2 ^ 8;
  write = λ n. n ∷ [];
  read = front_byte;
}

-- A number in four bytes.
abbrev pub uint32 : Form ℕ
uint32 = record {
  Shows = ShowsNumber w32 4;
  Fits = λ n. n < 2 ^ 32;
  write = to_le_bytes w32;
  read = λ bytes. answer_map (from_le_bytes w32) (front_bytes 4 bytes);
}

-- A number in eight bytes.
abbrev pub uint64 : Form ℕ
uint64 = record {
  Shows = ShowsNumber w64 8;
  Fits = λ n. n < 2 ^ 64;
  write = to_le_bytes w64;
  read = λ bytes. answer_map (from_le_bytes w64) (front_bytes 8 bytes);
}

-- From the lower to the upper number, both included.
abbrev pub is_within : ℕ → ℕ → ℕ → Bool
is_within low high n = nat_le low n && nat_le n high

-- A count in four bytes, between two limits. It is judged as soon as its own bytes are there.
abbrev pub count : ℕ → ℕ → Form ℕ
count low high = tested (is_within low high) uint32
