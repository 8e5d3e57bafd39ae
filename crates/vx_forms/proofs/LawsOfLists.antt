-- Lists of a lawful form after their count are a lawful form, and canonical where it is.
use Rattle.std.proofs.Common.{ℕ, zero, suc, ◌≡◌, List, [], ◌∷◌, ◌++◌, length, refl, sym, ap, ◌∙◌, subst, arith}
use Rattle.std.specs.List.{flat_map, AllByRecursion}
use Rattle.vx_trees.specs.Bytes.{AreBytes}
use Rattle.vx_forms.specs.Form.{Form, whole, answer_map, and_then, IsLawful, IsCanonical}
use Rattle.vx_forms.specs.Numbers.{count}
use Rattle.vx_forms.specs.Lists.{ShowEach, read_each, list}
use Rattle.vx_forms.proofs.Readers.{IsReader, restated, ended, viewed, followed, ShowsAfter, ShowsView}
use Rattle.vx_forms.proofs.LawsOfForms.{reader_of, lawful_of}
use Rattle.vx_forms.proofs.LawsOfBytes.{bytes_before, bytes_after}
use Rattle.vx_forms.proofs.LawsOfTested.{count_lawful, count_canonical}

-- Bytes show n values.
pub record ShowsMany {A : Type 0} (f : Form A) (n : ℕ) (xs : List A) (bytes : List ℕ) : Type 0 where
  pub many : length xs ≡ n
  pub each : ShowEach f xs bytes

module _ {A : Type 0} (f : Form A) where
  -- ---- n values

  as_ended : (xs : List A) (bytes : List ℕ) → ShowsMany f 0 xs bytes → (bytes ≡ []) × (xs ≡ [])
  as_ended [] bytes s = (s.each, refl)
  as_ended (x ∷ xs) bytes s = absurd (let e = s.many in omega (arith, e))

  as_none : (xs : List A) (bytes : List ℕ) → (bytes ≡ []) × (xs ≡ []) → ShowsMany f 0 xs bytes
  as_none xs bytes s = subst (λ ys. ShowsMany f 0 ys bytes) (sym s.1) (record { many = refl; each = s.0 })

  abbrev Others : ℕ → A → List A → List ℕ → Type 0
  Others n x xs bytes = ShowsView (ShowsMany f n) (λ ys. x ∷ ys) xs bytes

  as_after : (n : ℕ) (xs : List A) (bytes : List ℕ) → ShowsMany f (suc n) xs bytes
      → ShowsAfter f.Shows (Others n) xs bytes
  as_after n [] bytes s = absurd (let e = s.many in omega (arith, e))
  as_after n (x ∷ xs) bytes s =
      let e = s.many in
      record {
        value = x;
        first = s.each.first;
        second = s.each.second;
        parts = s.each.parts;
        in_first = s.each.in_first;
        in_second = record {
          value = xs;
          is = refl;
          shown = record { many = omega (arith, e); each = s.each.in_second };
        };
      }

  as_many : (n : ℕ) (xs : List A) (bytes : List ℕ) → ShowsAfter f.Shows (Others n) xs bytes
      → ShowsMany f (suc n) xs bytes
  as_many n xs bytes s = subst (λ ys. ShowsMany f (suc n) ys bytes) s.in_second.is
      (record {
        many = ap suc s.in_second.shown.many;
        each = record {
          first = s.first;
          second = s.second;
          parts = s.parts;
          in_first = s.in_first;
          in_second = s.in_second.shown.each;
        };
      })

  pub each_reader : IsLawful f → (n : ℕ) → IsReader (ShowsMany f n) (read_each f n)
  each_reader law zero = restated (λ xs bytes. (bytes ≡ []) × (xs ≡ [])) (ShowsMany f 0) (λ bytes. whole [] bytes)
      (ended []) as_ended as_none
  each_reader law (suc n) =
      restated (ShowsAfter f.Shows (Others n)) (ShowsMany f (suc n))
      (λ bytes. and_then (f.read bytes) (λ x rest. answer_map (λ ys. x ∷ ys) (read_each f n rest)))
      (followed f.Shows f.read (reader_of f law) (Others n) (λ x rest. answer_map (λ ys. x ∷ ys) (read_each f n rest))
      (λ x. viewed (ShowsMany f n) (read_each f n) (λ ys. x ∷ ys) (each_reader law n)))
      (as_after n) (as_many n)

  pub each_written : IsLawful f → (xs : List A) → AllByRecursion f.Fits xs → ShowEach f xs (flat_map f.write xs)
  each_written law [] h = refl
  each_written law (x ∷ xs) h =
      record {
        first = f.write x;
        second = flat_map f.write xs;
        parts = refl;
        in_first = law.written x h.0;
        in_second = each_written law xs h.1;
      }

  each_fit : IsCanonical f → (xs : List A) (bytes : List ℕ) → AreBytes bytes → ShowEach f xs bytes
      → AllByRecursion f.Fits xs
  each_fit one [] bytes h s = tt
  each_fit one (x ∷ xs) bytes h s =
      let are = subst AreBytes s.parts h in (
        one.fits x s.first (bytes_before s.first s.second are) s.in_first,
        each_fit one xs s.second
            (bytes_after s.first s.second are) s.in_second,
      )

  each_same : IsCanonical f → (xs : List A) (bytes : List ℕ) → AreBytes bytes → ShowEach f xs bytes
      → bytes ≡ flat_map f.write xs
  each_same one [] bytes h s = s
  each_same one (x ∷ xs) bytes h s =
      let are = subst AreBytes s.parts h in
      s.parts ∙ ap (λ (z : List ℕ). z ++ s.second) (one.same x s.first (bytes_before s.first s.second are) s.in_first)
      ∙ ap (λ (z : List ℕ). f.write x ++ z) (each_same one xs s.second (bytes_after s.first s.second are) s.in_second)

  -- ---- after their count

  counted_after : (low high : ℕ) (xs : List A) (bytes : List ℕ) → (list low high f).Shows xs bytes
      → ShowsAfter (count low high).Shows (ShowsMany f) xs bytes
  counted_after low high xs bytes s = record {
    value = length xs;
    first = s.first;
    second = s.second;
    parts = s.parts;
    in_first = s.in_first;
    in_second = record { many = refl; each = s.in_second };
  }

  as_list : (low high : ℕ) (xs : List A) (bytes : List ℕ) → ShowsAfter (count low high).Shows (ShowsMany f) xs bytes
      → (list low high f).Shows xs bytes
  as_list low high xs bytes s = record {
    first = s.first;
    second = s.second;
    parts = s.parts;
    in_first = subst (λ z. (count low high).Shows z s.first) (sym s.in_second.many) s.in_first;
    in_second = s.in_second.each;
  }

  pub list_lawful : (low high : ℕ) → IsLawful f → IsLawful (list low high f)
  list_lawful low high law =
      lawful_of (list low high f)
      (restated (ShowsAfter (count low high).Shows (ShowsMany f)) (list low high f).Shows (list low high f).read
      (followed (count low high).Shows (count low high).read (reader_of (count low high) (count_lawful low high))
      (ShowsMany f) (λ n rest. read_each f n rest) (each_reader law))
      (counted_after low high) (as_list low high))
      (λ xs h. record {
        first = (count low high).write (length xs);
        second = flat_map f.write xs;
        parts = refl;
        in_first = (count_lawful low high).written (length xs) (h.0, h.1);
        in_second = each_written law xs h.2;
      })

  pub list_canonical : (low high : ℕ) → IsCanonical f → IsCanonical (list low high f)
  list_canonical low high one = record {
    fits = λ xs bytes h s.
        let are = subst AreBytes s.parts h in
        let c = (count_canonical low high).fits (length xs) s.first (bytes_before s.first s.second are) s.in_first in
        (c.0, c.1, each_fit one xs s.second (bytes_after s.first s.second are) s.in_second);
    same = λ xs bytes h s.
        let are = subst AreBytes s.parts h in
        s.parts ∙ ap (λ (z : List ℕ). z ++ s.second)
        ((count_canonical low high).same (length xs) s.first (bytes_before s.first s.second are) s.in_first)
        ∙ ap (λ (z : List ℕ). (count low high).write (length xs) ++ z)
        (each_same one xs s.second (bytes_after s.first s.second are) s.in_second);
  }
