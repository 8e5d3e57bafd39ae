-- What holds of every lawful form.
use Rattle.std.proofs.Common.{ℕ, ◌≡◌, List, [], ◌∷◌, ◌++◌, Some, sym, ap, ◌∙◌, subst}
use Rattle.std.proofs.lemmas.List.{append-nil}
use Rattle.vx_forms.specs.Form.{Answer, whole, short, wrong, Form, IsLawful, BeginsWith, nothing_after, read_all}
use Rattle.vx_forms.proofs.Readers.{IsReader, stays}

pub reader_of : {A : Type 0} (f : Form A) → IsLawful f → IsReader f.Shows f.read
reader_of f law = record { back = law.back; only = law.only; refused = law.refused }

-- A reader and what is written make a lawful form.
pub lawful_of : {A : Type 0} (f : Form A) → IsReader f.Shows f.read → ((x : A) → f.Fits x → f.Shows x (f.write x))
    → IsLawful f
lawful_of f r written = record { back = r.back; only = r.only; refused = r.refused; written = written }

-- ---- further bytes

-- What is whole stays whole: further bytes end the rest.
pub whole_stays : {A : Type 0} (f : Form A) → IsLawful f → (bytes more : List ℕ) (x : A) (rest : List ℕ)
    → f.read bytes ≡ whole x rest
    → f.read (bytes ++ more) ≡ whole x (rest ++ more)
whole_stays f law = stays f.Shows f.read (reader_of f law)

-- A value at the front is read.
pub front_read : {A : Type 0} (f : Form A) → IsLawful f → (bytes : List ℕ) (x : A) (rest : List ℕ)
    → BeginsWith (f.Shows x) bytes rest → f.read bytes ≡ whole x rest
front_read f law bytes x rest b = ap f.read b.parts ∙ law.back x b.front rest b.shown

short_not_whole : {A : Type 0} (x : A) (rest : List ℕ) → ◌≡◌ {A = Answer A} short (whole x rest) → ⊥
short_not_whole x rest e = cc

wrong_not_whole : {A : Type 0} (x : A) (rest : List ℕ) → ◌≡◌ {A = Answer A} wrong (whole x rest) → ⊥
wrong_not_whole x rest e = cc

-- Where a reader asks for further bytes, no value is at the front yet.
pub short_means : {A : Type 0} (f : Form A) → IsLawful f → (bytes : List ℕ) → f.read bytes ≡ short
    → (x : A) (rest : List ℕ) → BeginsWith (f.Shows x) bytes rest → ⊥
short_means f law bytes e x rest b = short_not_whole x rest (sym e ∙ front_read f law bytes x rest b)

-- Where a reader refuses, no value is at the front, whatever bytes follow.
pub wrong_means : {A : Type 0} (f : Form A) → IsLawful f → (bytes more : List ℕ) → f.read bytes ≡ wrong
    → (x : A) (rest : List ℕ)
    → BeginsWith (f.Shows x) (bytes ++ more) rest → ⊥
wrong_means f law bytes more e x rest b =
    wrong_not_whole x rest (sym (law.refused bytes more e) ∙ front_read f law (bytes ++ more) x rest b)

-- ---- one value

value_in : {A : Type 0} (x y : A) (rest after : List ℕ) → whole x rest ≡ whole y after → (x ≡ y) × (rest ≡ after)
value_in x y rest after e = (cc, cc)

-- One value at most is at the front, with one rest.
pub one_front : {A : Type 0} (f : Form A) → IsLawful f → (bytes : List ℕ) (x y : A) (rest after : List ℕ)
    → BeginsWith (f.Shows x) bytes rest → BeginsWith (f.Shows y) bytes after → (x ≡ y) × (rest ≡ after)
one_front f law bytes x y rest after b c =
    value_in x y rest after (sym (front_read f law bytes x rest b) ∙ front_read f law bytes y after c)

-- Bytes show one value at most.
pub one_value : {A : Type 0} (f : Form A) → IsLawful f → (x y : A) (bytes : List ℕ) → f.Shows x bytes → f.Shows y bytes
    → x ≡ y
one_value f law x y bytes s t =
    (one_front f law bytes x y [] []
    (record { front = bytes; parts = sym (append-nil bytes); shown = s })
    (record { front = bytes; parts = sym (append-nil bytes); shown = t })).0

-- ---- all of the bytes

-- Bytes that show a value are read as it, and nothing is left.
pub read_back : {A : Type 0} (f : Form A) → IsLawful f → (x : A) (bytes : List ℕ) → f.Shows x bytes
    → f.read bytes ≡ whole x []
read_back f law x bytes s =
    front_read f law bytes x [] (record { front = bytes; parts = sym (append-nil bytes); shown = s })

nothing_left : {A : Type 0} (a : Answer A) (x : A) → nothing_after a ≡ Some x → a ≡ whole x []
nothing_left (whole y []) x e = cc
nothing_left (whole y (b ∷ bs)) x e = absurd cc
nothing_left short x e = absurd cc
nothing_left wrong x e = absurd cc

-- All of the bytes are read as the value that they show.
pub all_back : {A : Type 0} (f : Form A) → IsLawful f → (x : A) (bytes : List ℕ) → f.Shows x bytes
    → read_all f bytes ≡ Some x
all_back f law x bytes s = ap (λ a. nothing_after a) (read_back f law x bytes s)

-- And as no other.
pub all_only : {A : Type 0} (f : Form A) → IsLawful f → (bytes : List ℕ) (x : A) → read_all f bytes ≡ Some x
    → f.Shows x bytes
all_only f law bytes x e =
    let b = law.only bytes x [] (nothing_left (f.read bytes) x e) in
    subst (λ z. f.Shows x z) (sym (b.parts ∙ append-nil b.front)) b.shown

-- What is written for a value that fits is read as it.
pub written_back : {A : Type 0} (f : Form A) → IsLawful f → (x : A) (rest : List ℕ) → f.Fits x
    → f.read (f.write x ++ rest) ≡ whole x rest
written_back f law x rest h = law.back x (f.write x) rest (law.written x h)
