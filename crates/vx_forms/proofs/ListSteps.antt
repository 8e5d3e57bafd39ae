-- The steps of a loop that reads values one by one: the values so far, before what is still to be read, are the whole.
use Rattle.std.proofs.Common.{ℕ, suc, ◌≡◌, List, [], ◌∷◌, ◌++◌, refl, sym, ap, ◌∙◌, append_assoc}
use Rattle.std.proofs.lemmas.List.{append-nil}
use Rattle.vx_forms.specs.Form.{Answer, whole, short, wrong, and_then, answer_map, Form}
use Rattle.vx_forms.specs.Lists.{read_each, read_more, list}
use Rattle.vx_forms.specs.Numbers.{count}
use Rattle.vx_forms.specs.Refused.{refusal}
use Rattle.vx_forms.specs.declared.error.ReadError.{ReadError}
use Rattle.vx_forms.specs.declared.error.ReadError.TheVariants.{Short, Wrong}

add_one : {A : Type 0} (xs : List A) (x : A) (a : Answer (List A))
    → answer_map (λ ys. xs ++ ys) (answer_map (λ ys. x ∷ ys) a) ≡ answer_map (λ ys. (xs ++ x ∷ []) ++ ys) a
add_one xs x (whole ys rest) = ap (λ z. whole z rest) (sym (append_assoc xs (x ∷ []) ys))
add_one xs x short = refl
add_one xs x wrong = refl

module _ {A : Type 0} (f : Form A) where
  -- No value was read yet.
  pub each_begun : (n : ℕ) (bytes : List ℕ) → read_more f [] n bytes ≡ read_each f n bytes
  each_begun n bytes = none (read_each f n bytes)
    where
      none : (a : Answer (List A)) → answer_map (λ ys. [] ++ ys) a ≡ a
      none (whole ys rest) = refl
      none short = refl
      none wrong = refl

  -- One more value was read.
  pub each_step : (xs : List A) (n k : ℕ) (bytes : List ℕ) (x : A) (rest : List ℕ) → n ≡ suc k
      → f.read bytes ≡ whole x rest
      → read_more f xs n bytes ≡ read_more f (xs ++ x ∷ []) k rest
  each_step xs n k bytes x rest e r =
      ap (λ m. read_more f xs m bytes) e
      ∙ ap (λ a. answer_map (λ ys. xs ++ ys) (and_then a (λ y after. answer_map (λ ys. y ∷ ys) (read_each f k after))))
      r
      ∙ add_one xs x (read_each f k rest)

  -- The next value needs further bytes, and so does the list.
  pub each_short : (xs : List A) (n k : ℕ) (bytes : List ℕ) → n ≡ suc k → f.read bytes ≡ short
      → read_more f xs n bytes ≡ short
  each_short xs n k bytes e r =
      ap (λ m. read_more f xs m bytes) e
      ∙ ap (λ a. answer_map (λ ys. xs ++ ys) (and_then a (λ y after. answer_map (λ ys. y ∷ ys) (read_each f k after))))
      r

  -- The next value is wrong, and so is the list.
  pub each_wrong : (xs : List A) (n k : ℕ) (bytes : List ℕ) → n ≡ suc k → f.read bytes ≡ wrong
      → read_more f xs n bytes ≡ wrong
  each_wrong xs n k bytes e r =
      ap (λ m. read_more f xs m bytes) e
      ∙ ap (λ a. answer_map (λ ys. xs ++ ys) (and_then a (λ y after. answer_map (λ ys. y ∷ ys) (read_each f k after))))
      r

  -- All values were read.
  pub each_done : (xs : List A) (n : ℕ) (bytes : List ℕ) → n ≡ 0 → read_more f xs n bytes ≡ whole xs bytes
  each_done xs n bytes e = ap (λ m. read_more f xs m bytes) e ∙ ap (λ z. whole z bytes) (append-nil xs)

  -- The next value is refused, and so is the list.
  pub each_refused : (xs : List A) (n k : ℕ) (bytes : List ℕ) (e : ReadError) → n ≡ suc k
      → f.read bytes ≡ refusal e → read_more f xs n bytes ≡ refusal e
  each_refused xs n k bytes Short next r = each_short xs n k bytes next r
  each_refused xs n k bytes Wrong next r = each_wrong xs n k bytes next r

  -- The count of a list was read, and none of its values yet.
  pub list_begun : (low high n left : ℕ) (xs : List A) (bytes rest : List ℕ)
      → (count low high).read bytes ≡ whole n rest → xs ≡ [] → left ≡ n
      → (list low high f).read bytes ≡ read_more f xs left rest
  list_begun low high n left xs bytes rest r none all =
      ap (λ a. and_then a (λ m after. read_each f m after)) r ∙ sym (each_begun n rest)
      ∙ ap (λ ys. read_more f ys n rest) (sym none) ∙ ap (λ m. read_more f xs m rest) (sym all)
