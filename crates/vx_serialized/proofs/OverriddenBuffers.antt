-- Descriptors one by one, with buffers that are given in place of some, or of none.
use Rattle.std.proofs.Common.{ℕ, suc, ◌≡◌, ◌+◌, ◌<◌, ◌≤◌, ◌^◌, Bool, true, false, List, [], ◌∷◌, ◌++◌, Option, None, length, refl, sym, ap, ◌∙◌, subst, arith, append_assoc, inl, inr}
use Rattle.std.specs.Prelude.{All, Any, nat_lt, if◌then◌else◌, Result, Ok, Err, IfOk}
use Rattle.std.specs.BTreeMap.{BTreeMap, get}
use Rattle.std.specs.Ordering.{nat_cmp}
use Rattle.std.proofs.lemmas.List.Elements.{All-nil, All-cons}
use Rattle.vx_buffer.specs.Buffer.{Buffer}
use Rattle.vx_serialized.specs.declared.error.WireError.{WireError}
use Rattle.vx_serialized.specs.declared.error.WireError.TheVariants.{BadAlignment, Compressed, OutOfBounds}
use Rattle.vx_serialized.specs.Blob.{AreClean, buffers_at, end_of}
use Rattle.vx_serialized.specs.Message.{Descriptor, place_behind}
use Rattle.vx_serialized.specs.Overrides.{Overrides, no_override, overrides_in, buffer_with, buffers_with, IsCleanAt, AreCleanWith, RefusesAt, RefusesOne}
use Rattle.vx_serialized.specs.Serialized.{Serialized}

-- ---- one descriptor more

module _ (given : Overrides) (i p : ℕ) (ds rest : List Descriptor) (d : Descriptor) (front : ds ≡ d ∷ rest) (j q : ℕ) (next : j ≡ suc i) (behind : q ≡ place_behind p d) where
  pub buffers-more : (segment : List ℕ) (bs now whole : List Buffer) (b : Buffer) → bs ++ buffers_with given segment i p ds ≡ whole → b ≡ buffer_with (given i) segment p d → now ≡ bs ++ b ∷ []
      → now ++ buffers_with given segment j q rest ≡ whole
  buffers-more segment bs now whole b inv is e =
      ap (λ z. z ++ buffers_with given segment j q rest) e
      ∙ append_assoc bs (b ∷ []) (buffers_with given segment j q rest)
      ∙ (λ k. bs ++ (is k ∷ buffers_with given segment (next k) (behind k) rest))
      ∙ ap (λ z. bs ++ buffers_with given segment i p z) (sym front)
      ∙ inv

  pub clean-more : (n : ℕ) (Whole : Type 0) → (AreCleanWith given n i p ds → Whole) → IsCleanAt (given i) n p d → AreCleanWith given n j q rest → Whole
  clean-more n Whole inv here others =
      let P : ℕ → Type 0 = λ z. AreCleanWith given n z q rest in
      let Q : ℕ → Type 0 = λ z. AreCleanWith given n (suc i) z rest in
      let R : List Descriptor → Type 0 = λ z. AreCleanWith given n i p z in
      inv (subst R (sym front) (here, subst Q behind (subst P next others)))

  pub refused-more : (n : ℕ) (e : WireError) (Whole : Type 0) → (RefusesOne e given n i p ds → Whole) → RefusesOne e given n j q rest → Whole
  refused-more n e Whole inv others =
      let P : ℕ → Type 0 = λ z. RefusesOne e given n z q rest in
      let Q : ℕ → Type 0 = λ z. RefusesOne e given n (suc i) z rest in
      let R : List Descriptor → Type 0 = λ z. RefusesOne e given n i p z in
      inv (subst R (sym front) (inr (subst Q behind (subst P next others))))

-- A refusal that no descriptor has is none of the list's.
pub never-refused : (e : WireError) (given : Overrides) → ((g : Option Buffer) (n p : ℕ) (d : Descriptor) → RefusesAt e g n p d → ⊥) → (n i p : ℕ) (ds : List Descriptor) → RefusesOne e given n i p ds → ⊥
never-refused e given never n i p [] h = h
never-refused e given never n i p (d ∷ ds) (inl h) = never (given i) n p d h
never-refused e given never n i p (d ∷ ds) (inr h) = never-refused e given never n (suc i) (place_behind p d) ds h

-- ---- where none is given

none_at : (b : Bool) (o : Option Buffer) → o ≡ None → (if b then o else None) ≡ None
none_at true o e = e
none_at false o e = refl

pub no_overrides : (m : BTreeMap ℕ Buffer) → m.entries ≡ [] → overrides_in m ≡ no_override
no_overrides m e = λ j i. none_at (nat_lt i (2 ^ 32)) (get nat_cmp m i) (empty i) j
  where
    empty : (i : ℕ) → get nat_cmp m i ≡ None
    empty i = rw e refl

pub buffers-none : (segment : List ℕ) (i p : ℕ) (ds : List Descriptor) → buffers_with no_override segment i p ds ≡ buffers_at segment p ds
buffers-none segment i p [] = refl
buffers-none segment i p (d ∷ ds) = ap (λ z. buffer_with None segment p d ∷ z) (buffers-none segment (suc i) (place_behind p d) ds)

aligned-all : (given : Overrides) (n i p : ℕ) (ds : List Descriptor) → AreCleanWith given n i p ds → All (λ d. d.exponent ≤ 16) ds
aligned-all given n i p [] h = All-nil (λ d. d.exponent ≤ 16)
aligned-all given n i p (d ∷ ds) h = All-cons (λ d. d.exponent ≤ 16) d ds h.0.aligned (aligned-all given n (suc i) (place_behind p d) ds h.1)

plain-all : (given : Overrides) (n i p : ℕ) (ds : List Descriptor) → AreCleanWith given n i p ds → All (λ d. d.compression ≡ 0) ds
plain-all given n i p [] h = All-nil (λ d. d.compression ≡ 0)
plain-all given n i p (d ∷ ds) h = All-cons (λ d. d.compression ≡ 0) d ds h.0.plain (plain-all given n (suc i) (place_behind p d) ds h.1)

within-all : (n i p : ℕ) (ds : List Descriptor) → p ≤ n → AreCleanWith no_override n i p ds → end_of p ds ≤ n
within-all n i p [] le h = le
within-all n i p (d ∷ ds) le h = within-all n (suc i) (place_behind p d) ds h.0.within h.1

pub clean-none : (segment : List ℕ) (ds : List Descriptor) → AreCleanWith no_override (length segment) 0 0 ds → AreClean segment ds
clean-none segment ds h = record {
  aligned = aligned-all no_override (length segment) 0 0 ds h;
  plain = plain-all no_override (length segment) 0 0 ds h;
  within = within-all (length segment) 0 0 ds (omega arith) h;
}

any-here : (P : Descriptor → Type 0) (d : Descriptor) (ds : List Descriptor) → P d → Any P (d ∷ ds)
any-here P d ds h = (0, d, omega arith, refl, h)

any-later : (P : Descriptor → Type 0) (d : Descriptor) (ds : List Descriptor) → Any P ds → Any P (d ∷ ds)
any-later P d ds h = (suc h.0, h.1, omega (arith, h.2), h.3, h.4)

pub aligned-any : (n i p : ℕ) (ds : List Descriptor) → RefusesOne BadAlignment no_override n i p ds → Any (λ d. 16 < d.exponent) ds
aligned-any n i p [] h = absurd h
aligned-any n i p (d ∷ ds) (inl h) = any-here (λ d. 16 < d.exponent) d ds h
aligned-any n i p (d ∷ ds) (inr h) = any-later (λ d. 16 < d.exponent) d ds (aligned-any n (suc i) (place_behind p d) ds h)

pub plain-any : (n i p : ℕ) (ds : List Descriptor) → RefusesOne Compressed no_override n i p ds → Any (λ d. 0 < d.compression) ds
plain-any n i p [] h = absurd h
plain-any n i p (d ∷ ds) (inl h) = any-here (λ d. 0 < d.compression) d ds h
plain-any n i p (d ∷ ds) (inr h) = any-later (λ d. 0 < d.compression) d ds (plain-any n (suc i) (place_behind p d) ds h)

end_of-above : (p : ℕ) (ds : List Descriptor) → p ≤ end_of p ds
end_of-above p [] = omega arith
end_of-above p (d ∷ ds) = omega (arith, end_of-above (p + d.padding + d.len) ds)

pub past-end : (n i p : ℕ) (ds : List Descriptor) → RefusesOne OutOfBounds no_override n i p ds → n < end_of p ds
past-end n i p [] h = absurd h
past-end n i p (d ∷ ds) (inl h) = omega (arith, h, end_of-above (place_behind p d) ds)
past-end n i p (d ∷ ds) (inr h) = past-end n (suc i) (place_behind p d) ds h

-- What is taken where none is given.
pub buffers-plain : (given : BTreeMap ℕ Buffer) (segment : List ℕ) (r : Result Serialized WireError) → given.entries ≡ []
    → IfOk r (λ a. a.buffers ≡ buffers_with (overrides_in given) segment 0 0 a.descriptors) → IfOk r (λ a. a.buffers ≡ buffers_at segment 0 a.descriptors)
buffers-plain given segment (Ok a) empty h = h ∙ ap (λ z. buffers_with z segment 0 0 a.descriptors) (no_overrides given empty) ∙ buffers-none segment 0 0 a.descriptors
buffers-plain given segment (Err e) empty h = tt

pub clean-plain : (given : BTreeMap ℕ Buffer) (segment : List ℕ) (r : Result Serialized WireError) → given.entries ≡ []
    → IfOk r (λ a. AreCleanWith (overrides_in given) (length segment) 0 0 a.descriptors) → IfOk r (λ a. AreClean segment a.descriptors)
clean-plain given segment (Ok a) empty h =
    let P : Overrides → Type 0 = λ g. AreCleanWith g (length segment) 0 0 a.descriptors in
    clean-none segment a.descriptors (subst P (no_overrides given empty) h)
clean-plain given segment (Err e) empty h = tt
