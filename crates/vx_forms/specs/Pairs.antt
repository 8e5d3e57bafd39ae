-- Two values, one after the other.
use Rattle.std.specs.Prelude.{ℕ, ◌≡◌, List, ◌++◌}
use Rattle.vx_forms.specs.Form.{and_then, answer_map, Form}

-- Bytes in two parts, of which the first has one property and the second another.
pub record IsJoined (First Second : List ℕ → Type 0) (bytes : List ℕ) : Type 0 where
  pub first : List ℕ
  pub second : List ℕ
  pub parts : bytes ≡ first ++ second
  pub in_first : First first
  pub in_second : Second second

-- A value of one form, and after it one of another.
abbrev pub pair : {A B : Type 0} → Form A → Form B → Form (A × B)
pair {A} {B} f g = record {
  Shows = λ p bytes. IsJoined (f.Shows p.0) (g.Shows p.1) bytes;
  Fits = λ p. f.Fits p.0 × g.Fits p.1;
  write = λ p. f.write p.0 ++ g.write p.1;
  read = λ bytes. and_then {B = A × B} (f.read bytes)
      (λ x rest. answer_map (λ y. (x, y)) (g.read rest));
}
