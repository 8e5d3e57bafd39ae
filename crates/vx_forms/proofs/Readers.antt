-- Readers put together: the laws of a reader that goes on after a value follow from those of its parts.
use Rattle.std.proofs.Common.{ℕ, ◌≡◌, ◌⊎◌, Bool, true, false, cond, List, [], ◌++◌, refl, sym, ap, ◌∙◌, append_assoc, inl, inr}
use Rattle.vx_forms.specs.Form.{Answer, whole, short, wrong, and_then, answer_map, BeginsWith}

-- The laws of reading alone.
pub record IsReader {A : Type 0} (Shows : A → List ℕ → Type 0) (read : List ℕ → Answer A) : Type 0 where
  pub back : (x : A) (bytes rest : List ℕ) → Shows x bytes → read (bytes ++ rest) ≡ whole x rest
  pub only : (bytes : List ℕ) (x : A) (rest : List ℕ) → read bytes ≡ whole x rest → BeginsWith (Shows x) bytes rest
  pub refused : (bytes more : List ℕ) → read bytes ≡ wrong → read (bytes ++ more) ≡ wrong

-- A value that was found stays found with further bytes, which then end the rest.
pub stays : {A : Type 0} (Shows : A → List ℕ → Type 0) (read : List ℕ → Answer A) → IsReader Shows read
    → (bytes more : List ℕ) (x : A) (rest : List ℕ) → read bytes ≡ whole x rest
    → read (bytes ++ more) ≡ whole x (rest ++ more)
stays Shows read r bytes more x rest e =
    let b = r.only bytes x rest e in
    ap read (ap (λ (z : List ℕ). z ++ more) b.parts ∙ append_assoc b.front rest more)
    ∙ r.back x b.front (rest ++ more) b.shown

-- ---- what an answer came from

pub record IsAfter {A B : Type 0} (a : Answer A) (next : A → List ℕ → Answer B) (b : Answer B) : Type 0 where
  pub value : A
  pub rest : List ℕ
  pub found : a ≡ whole value rest
  pub then : next value rest ≡ b

pub after_whole : {A B : Type 0} (a : Answer A) (next : A → List ℕ → Answer B) (y : B) (rest : List ℕ)
    → and_then a next ≡ whole y rest → IsAfter a next (whole y rest)
after_whole (whole x bytes) next y rest e = record { value = x; rest = bytes; found = refl; then = e }
after_whole short next y rest e = absurd cc
after_whole wrong next y rest e = absurd cc

pub after_wrong : {A B : Type 0} (a : Answer A) (next : A → List ℕ → Answer B) → and_then a next ≡ wrong
    → (a ≡ wrong) ⊎ IsAfter a next wrong
after_wrong (whole x bytes) next e = inr (record { value = x; rest = bytes; found = refl; then = e })
after_wrong short next e = absurd cc
after_wrong wrong next e = inl refl

pub record IsMapped {A B : Type 0} (a : Answer A) (view : A → B) (y : B) (rest : List ℕ) : Type 0 where
  pub value : A
  pub found : a ≡ whole value rest
  pub is : view value ≡ y

pub mapped_whole : {A B : Type 0} (a : Answer A) (view : A → B) (y : B) (rest : List ℕ)
    → answer_map view a ≡ whole y rest → IsMapped a view y rest
mapped_whole (whole x bytes) view y rest e =
    let same : bytes ≡ rest = cc in
    record { value = x; found = ap (λ (z : List ℕ). whole x z) same; is = cc }
mapped_whole short view y rest e = absurd cc
mapped_whole wrong view y rest e = absurd cc

pub mapped_wrong : {A B : Type 0} (a : Answer A) (view : A → B) → answer_map view a ≡ wrong → a ≡ wrong
mapped_wrong (whole x bytes) view e = absurd cc
mapped_wrong short view e = absurd cc
mapped_wrong wrong view e = refl

-- ---- readers

-- The same reader, where other words say what bytes show.
pub restated : {A : Type 0} (Shows Other : A → List ℕ → Type 0) (read : List ℕ → Answer A) → IsReader Shows read
    → ((x : A) (bytes : List ℕ) → Other x bytes → Shows x bytes)
    → ((x : A) (bytes : List ℕ) → Shows x bytes → Other x bytes) → IsReader Other read
restated Shows Other read r there again = record {
  back = λ x bytes rest s. r.back x bytes rest (there x bytes s);
  only = λ bytes x rest e. let b =
      r.only bytes x rest e in record { front = b.front; parts = b.parts; shown = again x b.front b.shown };
  refused = r.refused;
}

-- A value that is known reads no byte.
pub ended : {A : Type 0} (x : A) → IsReader (λ y bytes. (bytes ≡ []) × (y ≡ x)) (λ rest. whole x rest)
ended x = record {
  back = λ y bytes rest s. ap (λ (z : List ℕ). whole x (z ++ rest)) s.0 ∙ ap (λ z. whole z rest) (sym s.1);
  only = λ bytes y rest e. let same : x ≡ y = cc in record { front = []; parts = cc; shown = (refl, sym same) };
  refused = λ bytes more e. absurd cc;
}

-- A reader that goes on only where a test is true.
pub guarded : {A : Type 0} (b : Bool) (Shows : A → List ℕ → Type 0) (read : List ℕ → Answer A) → IsReader Shows read
    → IsReader (λ x bytes. (b ≡ true) × Shows x bytes) (λ rest. cond b (read rest) wrong)
guarded true Shows read r =
    restated Shows (λ x bytes. (true ≡ true) × Shows x bytes) read r (λ x bytes s. s.1) (λ x bytes s. (refl, s))
guarded false Shows read r = record {
  back = λ x bytes rest s. absurd (let e = s.0 in cc);
  only = λ bytes x rest e. absurd cc;
  refused = λ bytes more e. refl;
}

-- Bytes show a value that is made of another one.
pub record ShowsView {A B : Type 0} (Shows : A → List ℕ → Type 0) (view : A → B) (y : B) (bytes : List ℕ) : Type 0 where
  pub value : A
  pub is : view value ≡ y
  pub shown : Shows value bytes

pub viewed : {A B : Type 0} (Shows : A → List ℕ → Type 0) (read : List ℕ → Answer A) (view : A → B)
    → IsReader Shows read
    → IsReader (ShowsView Shows view) (λ bytes. answer_map view (read bytes))
viewed Shows read view r = record {
  back = λ y bytes rest s. ap (λ a. answer_map view a) (r.back s.value bytes rest s.shown)
      ∙ ap (λ z. whole z rest) s.is;
  only = λ bytes y rest e.
      let m = mapped_whole (read bytes) view y rest e in
      let b = r.only bytes m.value rest m.found in
      record { front = b.front; parts = b.parts; shown = record { value = m.value; is = m.is; shown = b.shown } };
  refused = λ bytes more e. ap (λ a. answer_map view a) (r.refused bytes more (mapped_wrong (read bytes) view e));
}

-- Bytes show a value where some first ones show another, on which it may depend what the others show.
pub record ShowsAfter {A B : Type 0} (Shows : A → List ℕ → Type 0) (Next : A → B → List ℕ → Type 0) (y : B)
    (bytes : List ℕ) : Type 0 where
  pub value : A
  pub first : List ℕ
  pub second : List ℕ
  pub parts : bytes ≡ first ++ second
  pub in_first : Shows value first
  pub in_second : Next value y second

module _ {A B : Type 0} (Shows : A → List ℕ → Type 0) (read : List ℕ → Answer A) (r : IsReader Shows read)
    (Next : A → B → List ℕ → Type 0) (next : A → List ℕ → Answer B) (n : (x : A) → IsReader (Next x) (next x)) where
  followed_back : (y : B) (bytes rest : List ℕ) → ShowsAfter Shows Next y bytes
      → and_then (read (bytes ++ rest)) next ≡ whole y rest
  followed_back y bytes rest s =
      ap (λ (z : List ℕ). and_then (read z) next)
      (ap (λ (z : List ℕ). z ++ rest) s.parts ∙ append_assoc s.first s.second rest)
      ∙ ap (λ a. and_then a next) (r.back s.value s.first (s.second ++ rest) s.in_first)
      ∙ (n s.value).back y s.second rest s.in_second

  followed_only : (bytes : List ℕ) (y : B) (rest : List ℕ) → and_then (read bytes) next ≡ whole y rest
      → BeginsWith (ShowsAfter Shows Next y) bytes rest
  followed_only bytes y rest e =
      let s = after_whole (read bytes) next y rest e in
      let b = r.only bytes s.value s.rest s.found in
      let c = (n s.value).only s.rest y rest s.then in
      record {
        front = b.front ++ c.front;
        parts = b.parts ∙ ap (λ (z : List ℕ). b.front ++ z) c.parts ∙ sym (append_assoc b.front c.front rest);
        shown = record {
          value = s.value;
          first = b.front;
          second = c.front;
          parts = refl;
          in_first = b.shown;
          in_second = c.shown;
        };
      }

  followed_refused : (bytes more : List ℕ) → and_then (read bytes) next ≡ wrong
      → and_then (read (bytes ++ more)) next ≡ wrong
  followed_refused bytes more e = elim (after_wrong (read bytes) next e) [
    | inl w ↦ ap (λ a. and_then a next) (r.refused bytes more w)
    | inr w ↦ ap (λ a. and_then a next) (stays Shows read r bytes more w.value w.rest w.found)
        ∙ (n w.value).refused w.rest more w.then
  ]

  pub followed : IsReader (ShowsAfter Shows Next) (λ bytes. and_then (read bytes) next)
  followed = record { back = followed_back; only = followed_only; refused = followed_refused }
