-- Two lawful forms, one after the other, are a lawful form, and canonical where both are.
use Rattle.std.proofs.Common.{ℕ, List, ◌++◌, refl, ap, ◌∙◌, subst}
use Rattle.vx_trees.specs.Bytes.{AreBytes}
use Rattle.vx_forms.specs.Form.{answer_map, Form, IsLawful, IsCanonical}
use Rattle.vx_forms.specs.Pairs.{pair}
use Rattle.vx_forms.proofs.Readers.{restated, viewed, followed, ShowsAfter, ShowsView}
use Rattle.vx_forms.proofs.LawsOfForms.{reader_of, lawful_of}
use Rattle.vx_forms.proofs.LawsOfBytes.{bytes_before, bytes_after}

module _ {A B : Type 0} (f : Form A) (g : Form B) where
  abbrev Second : A → A × B → List ℕ → Type 0
  Second x p bytes = ShowsView {A = B} {B = A × B} g.Shows (λ y. (x, y)) p bytes

  as_after : (p : A × B) (bytes : List ℕ) → (pair f g).Shows p bytes → ShowsAfter f.Shows Second p bytes
  as_after p bytes s = record {
    value = p.0;
    first = s.first;
    second = s.second;
    parts = s.parts;
    in_first = s.in_first;
    in_second = record { value = p.1; is = refl; shown = s.in_second };
  }

  as_pair : (p : A × B) (bytes : List ℕ) → ShowsAfter f.Shows Second p bytes → (pair f g).Shows p bytes
  as_pair p bytes s = subst (λ (q : A × B). (pair f g).Shows q bytes) s.in_second.is
      (record {
        first = s.first;
        second = s.second;
        parts = s.parts;
        in_first = s.in_first;
        in_second = s.in_second.shown;
      })

  pub pair_lawful : IsLawful f → IsLawful g → IsLawful (pair f g)
  pair_lawful first second =
      lawful_of (pair f g)
      (restated (ShowsAfter f.Shows Second) (pair f g).Shows (pair f g).read
      (followed f.Shows f.read (reader_of f first) Second (λ x rest. answer_map (λ y. (x, y)) (g.read rest))
      (λ x. viewed g.Shows g.read (λ y. (x, y)) (reader_of g second)))
      as_after as_pair)
      (λ p h. record {
        first = f.write p.0;
        second = g.write p.1;
        parts = refl;
        in_first = first.written p.0 h.0;
        in_second = second.written p.1 h.1;
      })

  pub pair_canonical : IsCanonical f → IsCanonical g → IsCanonical (pair f g)
  pair_canonical first second = record {
    fits = λ p bytes h s.
        let are = subst AreBytes s.parts h in (
          first.fits p.0 s.first (bytes_before s.first s.second are) s.in_first,
          second.fits p.1 s.second
              (bytes_after s.first s.second are) s.in_second,
        );
    same = λ p bytes h s.
        let are = subst AreBytes s.parts h in
        s.parts ∙ ap (λ (z : List ℕ). z ++ s.second)
        (first.same p.0 s.first (bytes_before s.first s.second are) s.in_first)
        ∙ ap (λ (z : List ℕ). f.write p.0 ++ z)
        (second.same p.1 s.second (bytes_after s.first s.second are) s.in_second);
  }
