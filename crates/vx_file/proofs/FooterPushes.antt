-- The steps of the loops that write the lists of a footer.
use Rattle.std.proofs.Common.{ℕ, ◌≡◌, ◌+◌, List, [], ◌∷◌, ◌++◌, length, drop, refl, sym, ap, ◌∙◌, subst, append_assoc}
use Rattle.std.specs.List.{flat_map, AllByRecursion}
use Rattle.vx_forms.specs.Numbers.{uint32}
use Rattle.std.proofs.lemmas.List.Concat.{flat_map-cons}
use Rattle.vx_file.specs.declared.footer.ColumnRange.{ColumnRange}
use Rattle.vx_file.specs.Footer.{range_form, ranges_form}
use Rattle.vx_file.specs.FooterReading.{range_of, ranges_of}
use Rattle.vx_file.proofs.FooterLists.{length-ranges}

module _ {X : Type 0} (xs : List X) where
  -- One more element is written.
  pub more_pushed : (f : X → List ℕ) (out more all : List ℕ) (i : ℕ) (x : X) → drop i xs ≡ x ∷ drop (i + 1) xs → out ++ flat_map f (drop i xs) ≡ all → more ≡ out ++ f x
      → more ++ flat_map f (drop (i + 1) xs) ≡ all
  more_pushed f out more all i x there a m =
      let rest = drop (i + 1) xs in
      ap (λ z. z ++ flat_map f rest) m
      ∙ (append_assoc out (f x) (flat_map f rest)
      ∙ (ap (λ z. out ++ z) (sym (ap (λ zs. flat_map f zs) there ∙ flat_map-cons f x rest)) ∙ a))

  -- A fact of one more element.
  pub more_hold : (P : X → Type 0) (Q : Type 0) (i : ℕ) (x : X) → drop i xs ≡ x ∷ drop (i + 1) xs → (AllByRecursion P (drop i xs) → Q) → P x → AllByRecursion P (drop (i + 1) xs) → Q
  more_hold P Q i x there all p rest =
      let R : List X → Type 0 = λ zs. AllByRecursion P zs in
      all (subst R (sym there) (p, rest))

-- The bytes of a range in memory.
abbrev pub range_bytes : ColumnRange → List ℕ
range_bytes r = range_form.write (range_of r)

abbrev pub range_fits : ColumnRange → Type 0
range_fits r = range_form.Fits (range_of r)

-- The bytes of ranges in memory are those of the ranges.
pub ranges_bytes : (rs : List ColumnRange) → flat_map range_bytes rs ≡ flat_map range_form.write (ranges_of rs)
ranges_bytes [] = refl
ranges_bytes (r ∷ rs) = ap (λ z. range_bytes r ++ z) (ranges_bytes rs)

pub ranges_fit : (rs : List ColumnRange) → AllByRecursion range_fits rs → AllByRecursion range_form.Fits (ranges_of rs)
ranges_fit [] all = tt
ranges_fit (r ∷ rs) all = (all.0, ranges_fit rs all.1)

-- The count of ranges is written, and none of them.
pub ranges_begun : (old out : List ℕ) (rs : List ColumnRange) → out ≡ old ++ uint32.write (length rs) → out ++ flat_map range_bytes rs ≡ old ++ ranges_form.write (ranges_of rs)
ranges_begun old out rs e =
    ap (λ z. z ++ flat_map range_bytes rs) e
    ∙ (append_assoc old (uint32.write (length rs)) (flat_map range_bytes rs)
    ∙ (ap (λ z. old ++ (uint32.write (length rs) ++ z)) (ranges_bytes rs)
    ∙ ap (λ n. old ++ (uint32.write n ++ flat_map range_form.write (ranges_of rs))) (sym (length-ranges rs))))
