-- Constant bytes are a lawful form, and so is a lawful form after them; both are canonical.
use Rattle.std.proofs.Common.{ℕ, ◌≡◌, true, cond, List, [], ◌++◌, length, refl, sym, ap, ◌∙◌, subst}
use Rattle.std.specs.Prelude.{bytes_eq}
use Rattle.std.proofs.lemmas.List.{append-nil}
use Rattle.std.proofs.lemmas.Slice.Eq.{bytes_eq-Decides}
use Rattle.vx_trees.specs.Bytes.{AreBytes}
use Rattle.vx_forms.specs.Form.{whole, wrong, Form, IsLawful, IsCanonical}
use Rattle.vx_forms.specs.Numbers.{front_bytes}
use Rattle.vx_forms.specs.Prefixed.{constant, IsPrefixed, prefixed}
use Rattle.vx_forms.proofs.Readers.{restated, ended, guarded, followed, ShowsAfter}
use Rattle.vx_forms.proofs.LawsOfForms.{reader_of, lawful_of}
use Rattle.vx_forms.proofs.LawsOfBytes.{bytes_after}
use Rattle.vx_forms.proofs.LawsOfNumbers.{front_reader, ShowsFront}

module _ (word : List ℕ) where
  abbrev IsWord : List ℕ → Unit {0} → List ℕ → Type 0
  IsWord front x bytes = (bytes_eq front word ≡ true) × ((bytes ≡ []) × (x ≡ tt))

  as_after : (x : Unit {0}) (bytes : List ℕ) → bytes ≡ word → ShowsAfter (ShowsFront (length word)) IsWord x bytes
  as_after x bytes s = record {
    value = word;
    first = bytes;
    second = [];
    parts = sym (append-nil bytes);
    in_first = record { is = s; len = refl };
    in_second = ((bytes_eq-Decides word word).1 refl, (refl, refl));
  }

  as_constant : (x : Unit {0}) (bytes : List ℕ) → ShowsAfter (ShowsFront (length word)) IsWord x bytes → bytes ≡ word
  as_constant x bytes s =
      s.parts ∙ ap (λ (z : List ℕ). s.first ++ z) s.in_second.1.0 ∙ append-nil s.first ∙ s.in_first.is
      ∙ (bytes_eq-Decides s.value word).0 s.in_second.0

  pub constant_lawful : IsLawful (constant word)
  constant_lawful =
      lawful_of (constant word)
      (restated (ShowsAfter (ShowsFront (length word)) IsWord) (constant word).Shows (constant word).read
      (followed (ShowsFront (length word)) (front_bytes (length word)) (front_reader (length word)) IsWord
      (λ front rest. cond (bytes_eq front word) (whole tt rest) wrong)
      (λ front. guarded (bytes_eq front word) (λ x bytes. (bytes ≡ []) × (x ≡ tt)) (λ rest. whole tt rest) (ended tt)))
      as_after as_constant)
      (λ x h. refl)

  pub constant_canonical : IsCanonical (constant word)
  constant_canonical = record { fits = λ x bytes h s. tt; same = λ x bytes h s. s }

module _ {A : Type 0} (word : List ℕ) (f : Form A) where
  abbrev After : Unit {0} → A → List ℕ → Type 0
  After u x bytes = f.Shows x bytes

  as_followed : (x : A) (bytes : List ℕ) → IsPrefixed word (f.Shows x) bytes
      → ShowsAfter (constant word).Shows After x bytes
  as_followed x bytes s =
      record { value = tt; first = word; second = s.second; parts = s.parts; in_first = refl; in_second = s.shown }

  as_prefixed : (x : A) (bytes : List ℕ) → ShowsAfter (constant word).Shows After x bytes
      → IsPrefixed word (f.Shows x) bytes
  as_prefixed x bytes s =
      record { second = s.second; parts = s.parts ∙ ap (λ (z : List ℕ). z ++ s.second) s.in_first; shown = s.in_second }

  pub prefixed_lawful : IsLawful f → IsLawful (prefixed word f)
  prefixed_lawful law =
      lawful_of (prefixed word f)
      (restated (ShowsAfter (constant word).Shows After) (prefixed word f).Shows (prefixed word f).read
      (followed (constant word).Shows (constant word).read (reader_of (constant word) (constant_lawful word)) After
      (λ u rest. f.read rest) (λ u. reader_of f law))
      as_followed as_prefixed)
      (λ x h. record { second = f.write x; parts = refl; shown = law.written x h })

  pub prefixed_canonical : IsCanonical f → IsCanonical (prefixed word f)
  prefixed_canonical one = record {
    fits = λ x bytes h s. one.fits x s.second (bytes_after word s.second (subst AreBytes s.parts h)) s.shown;
    same = λ x bytes h s. s.parts ∙ ap (λ (z : List ℕ). word ++ z)
        (one.same x s.second (bytes_after word s.second (subst AreBytes s.parts h)) s.shown);
  }
