-- A lawful form under another type is lawful, and canonical where it is.
use Rattle.std.proofs.Common.{ℕ, List, sym, subst}
use Rattle.vx_forms.specs.Form.{answer_map, Form, IsLawful, IsCanonical}
use Rattle.vx_forms.specs.Mapped.{mapped, AreInverse}
use Rattle.vx_forms.proofs.Readers.{restated, viewed, ShowsView}
use Rattle.vx_forms.proofs.LawsOfForms.{reader_of, lawful_of}

module _ {A B : Type 0} (view : A → B) (back : B → A) (inverse : AreInverse view back) (f : Form A) where
  as_view : (y : B) (bytes : List ℕ) → f.Shows (back y) bytes → ShowsView f.Shows view y bytes
  as_view y bytes s = record { value = back y; is = inverse.view_back y; shown = s }

  as_mapped : (y : B) (bytes : List ℕ) → ShowsView f.Shows view y bytes → f.Shows (back y) bytes
  as_mapped y bytes s =
      subst (λ z. f.Shows (back z) bytes) s.is (subst (λ z. f.Shows z bytes) (sym (inverse.back_view s.value)) s.shown)

  pub mapped_lawful : IsLawful f → IsLawful (mapped view back f)
  mapped_lawful law =
      lawful_of (mapped view back f)
      (restated (ShowsView f.Shows view) (λ y bytes. f.Shows (back y) bytes) (λ bytes. answer_map view (f.read bytes))
      (viewed f.Shows f.read view (reader_of f law)) as_view as_mapped)
      (λ y h. law.written (back y) h)

  pub mapped_canonical : IsCanonical f → IsCanonical (mapped view back f)
  mapped_canonical one = record {
    fits = λ y bytes h s. one.fits (back y) bytes h s;
    same = λ y bytes h s. one.same (back y) bytes h s;
  }
