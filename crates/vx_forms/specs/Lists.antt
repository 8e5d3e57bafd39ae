-- Lists after their count, a number in four bytes.
use Rattle.std.specs.Prelude.{ℕ, zero, suc, ◌≡◌, ◌<◌, ◌^◌, List, [], ◌∷◌, ◌++◌, length, IsTrue}
use Rattle.std.specs.List.{flat_map, AllByRecursion}
use Rattle.vx_forms.specs.Form.{Answer, whole, and_then, answer_map, Form}
use Rattle.vx_forms.specs.Numbers.{uint32, count, is_within}
use Rattle.vx_forms.specs.Pairs.{IsJoined}

-- Bytes show values one after the other, and nothing else.
abbrev pub ShowEach : {A : Type 0} → Form A → List A → List ℕ → Type 0
ShowEach f [] bytes = bytes ≡ []
ShowEach f (x ∷ xs) bytes = IsJoined (f.Shows x) (ShowEach f xs) bytes

-- The first n values. Each is judged as soon as its own bytes are there.
abbrev pub read_each : {A : Type 0} → Form A → ℕ → List ℕ → Answer (List A)
read_each f zero bytes = whole [] bytes
read_each f (suc n) bytes =
    and_then (f.read bytes) (λ x rest. answer_map (λ xs. x ∷ xs) (read_each f n rest))

-- From low to high values of a form after their count. The count is judged before any value is
-- there.
abbrev pub list : {A : Type 0} → ℕ → ℕ → Form A → Form (List A)
list low high f = record {
  Shows = λ xs bytes. IsJoined ((count low high).Shows (length xs)) (ShowEach f xs) bytes;
  Fits = λ xs. IsTrue (is_within low high (length xs)) × (length xs < 2 ^ 32)
      × AllByRecursion f.Fits xs;
  write = λ xs. uint32.write (length xs) ++ flat_map f.write xs;
  read = λ bytes. and_then ((count low high).read bytes) (λ n rest. read_each f n rest);
}

-- Values that were read, and n more to be read after them.
abbrev pub read_more : {A : Type 0} → Form A → List A → ℕ → List ℕ → Answer (List A)
read_more f xs n bytes = answer_map (λ ys. xs ++ ys) (read_each f n bytes)
