-- The values of a lawful form that pass a test are a lawful form, and canonical where it is.
use Rattle.std.proofs.Common.{ℕ, ◌≡◌, Bool, true, cond, List, [], ◌++◌, refl, sym, ap, ◌∙◌, subst}
use Rattle.std.proofs.lemmas.List.{append-nil}
use Rattle.vx_forms.specs.Form.{whole, wrong, Form, IsLawful, IsCanonical}
use Rattle.vx_forms.specs.Numbers.{uint32, count, is_within}
use Rattle.vx_forms.specs.Tested.{tested}
use Rattle.vx_forms.proofs.Readers.{restated, ended, guarded, followed, ShowsAfter}
use Rattle.vx_forms.proofs.LawsOfForms.{reader_of, lawful_of}
use Rattle.vx_forms.proofs.LawsOfNumbers.{uint32_lawful, uint32_canonical}

module _ {A : Type 0} (test : A → Bool) (f : Form A) where
  abbrev Passes : A → A → List ℕ → Type 0
  Passes x y bytes = (test x ≡ true) × ((bytes ≡ []) × (y ≡ x))

  as_after : (x : A) (bytes : List ℕ) → (tested test f).Shows x bytes → ShowsAfter f.Shows Passes x bytes
  as_after x bytes s = record {
    value = x;
    first = bytes;
    second = [];
    parts = sym (append-nil bytes);
    in_first = s.1;
    in_second = (s.0, (refl, refl));
  }

  as_tested : (x : A) (bytes : List ℕ) → ShowsAfter f.Shows Passes x bytes → (tested test f).Shows x bytes
  as_tested x bytes s =
      let all : bytes ≡ s.first = s.parts ∙ ap (λ (z : List ℕ). s.first ++ z) s.in_second.1.0 ∙ append-nil s.first in
      let value : s.value ≡ x = sym s.in_second.1.1 in (
        subst (λ z. test z ≡ true) value s.in_second.0,
        subst (λ z. f.Shows z bytes) value
            (subst (λ z. f.Shows s.value z) (sym all) s.in_first),
      )

  pub tested_lawful : IsLawful f → IsLawful (tested test f)
  tested_lawful law =
      lawful_of (tested test f)
      (restated (ShowsAfter f.Shows Passes) (tested test f).Shows (tested test f).read
      (followed f.Shows f.read (reader_of f law) Passes (λ x rest. cond (test x) (whole x rest) wrong)
      (λ x. guarded (test x) (λ y bytes. (bytes ≡ []) × (y ≡ x)) (λ rest. whole x rest) (ended x)))
      as_after as_tested)
      (λ x h. (h.0, law.written x h.1))

  pub tested_canonical : IsCanonical f → IsCanonical (tested test f)
  tested_canonical one = record {
    fits = λ x bytes h s. (s.0, one.fits x bytes h s.1);
    same = λ x bytes h s. one.same x bytes h s.1;
  }

-- So is a count between two limits.
pub count_lawful : (low high : ℕ) → IsLawful (count low high)
count_lawful low high = tested_lawful (is_within low high) uint32 uint32_lawful

pub count_canonical : (low high : ℕ) → IsCanonical (count low high)
count_canonical low high = tested_canonical (is_within low high) uint32 uint32_canonical
