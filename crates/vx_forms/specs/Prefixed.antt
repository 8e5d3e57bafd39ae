-- Constant bytes, and values after them.
use Rattle.std.specs.Prelude.{ℕ, ◌≡◌, List, ◌++◌, length, bytes_eq, if◌then◌else◌}
use Rattle.vx_forms.specs.Form.{whole, wrong, and_then, Form}
use Rattle.vx_forms.specs.Numbers.{front_bytes}

-- Exactly these bytes. They are judged when as many are there.
abbrev pub constant : List ℕ → Form (Unit {0})
constant word = record {
  Shows = λ x bytes. bytes ≡ word;
  Fits = λ x. Unit {0};
  write = λ x. word;
  read = λ bytes. and_then (front_bytes (length word) bytes)
      (λ front rest. if bytes_eq front word then whole tt rest else wrong);
}

-- Bytes are these ones, and after them some with a property.
pub record IsPrefixed (word : List ℕ) (Shown : List ℕ → Type 0) (bytes : List ℕ) : Type 0 where
  pub second : List ℕ
  pub parts : bytes ≡ word ++ second
  pub shown : Shown second

-- A value after constant bytes.
abbrev pub prefixed : {A : Type 0} → List ℕ → Form A → Form A
prefixed word f = record {
  Shows = λ x bytes. IsPrefixed word (f.Shows x) bytes;
  Fits = f.Fits;
  write = λ x. word ++ f.write x;
  read = λ bytes. and_then ((constant word).read bytes) (λ x rest. f.read rest);
}
