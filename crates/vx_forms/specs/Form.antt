-- What a form of bytes is, and the laws that one keeps.
use Rattle.std.specs.Prelude.{ℕ, ◌≡◌, List, [], ◌∷◌, ◌++◌, Option, Some, None}
use Rattle.vx_trees.specs.Bytes.{AreBytes}

-- What a reader finds at the front of bytes of which more may follow. Whole: a value, and the bytes
-- after it. Short: no value yet, and further bytes are needed to tell. Wrong: no value, whatever
-- bytes follow.
pub data Answer (A : Type 0) : Type 0 where
  whole : A → List ℕ → Answer A
  short : Answer A
  wrong : Answer A

-- What is found where reading goes on after a value.
abbrev pub and_then : {A B : Type 0} → Answer A → (A → List ℕ → Answer B) → Answer B
and_then (whole x rest) next = next x rest
and_then short next = short
and_then wrong next = wrong

-- The same answer, with another value for the one that was found.
abbrev pub answer_map : {A B : Type 0} → (A → B) → Answer A → Answer B
answer_map view (whole x rest) = whole (view x) rest
answer_map view short = short
answer_map view wrong = wrong

-- A form of values: which bytes show a value, which values can be written, the bytes that are
-- written for one, and what is read at the front of bytes.
pub record Form (A : Type 0) : Type 1 where
  pub Shows : A → List ℕ → Type 0
  pub Fits : A → Type 0
  pub write : A → List ℕ
  pub read : List ℕ → Answer A

-- Bytes that show something stand at the front, and the rest follows them.
pub record BeginsWith (Shown : List ℕ → Type 0) (bytes rest : List ℕ) : Type 0 where
  pub front : List ℕ
  pub parts : bytes ≡ front ++ rest
  pub shown : Shown front

-- The laws of a form. Bytes that show a value are read as it, whatever follows them; nothing else
-- is read as a value; what is wrong stays wrong with further bytes; and what is written for a value
-- that fits shows it.
pub record IsLawful {A : Type 0} (f : Form A) : Type 0 where
  pub back : (x : A) (bytes rest : List ℕ) → f.Shows x bytes → f.read (bytes ++ rest) ≡ whole x rest
  pub only : (bytes : List ℕ) (x : A) (rest : List ℕ) → f.read bytes ≡ whole x rest
      → BeginsWith (f.Shows x) bytes rest
  pub refused : (bytes more : List ℕ) → f.read bytes ≡ wrong → f.read (bytes ++ more) ≡ wrong
  pub written : (x : A) → f.Fits x → f.Shows x (f.write x)

-- A value that bytes show fits, and the bytes are those that are written for it: no value has two
-- encodings.
pub record IsCanonical {A : Type 0} (f : Form A) : Type 0 where
  pub fits : (x : A) (bytes : List ℕ) → AreBytes bytes → f.Shows x bytes → f.Fits x
  pub same : (x : A) (bytes : List ℕ) → AreBytes bytes → f.Shows x bytes → bytes ≡ f.write x

-- A value with nothing after it. Where all bytes are there, short is no better than wrong.
abbrev pub nothing_after : {A : Type 0} → Answer A → Option A
nothing_after (whole x rest) = elim rest [ [] ↦ Some x | b ∷ bs ↦ None ]
nothing_after short = None
nothing_after wrong = None

-- The value that all of the bytes show.
abbrev pub read_all : {A : Type 0} → Form A → List ℕ → Option A
read_all f bytes = nothing_after (f.read bytes)
