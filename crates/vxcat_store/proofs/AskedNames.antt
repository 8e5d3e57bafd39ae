-- The names that were asked for.
use Rattle.std.proofs.Common.{◌≡◌, ◌⊎◌, inl, inr, ℕ, suc, List, [], ◌∷◌, ◌++◌, Contains, sym, ap, ◌∙◌, append_assoc, arith}
use Rattle.std.proofs.lemmas.List.{append-nil}
use Rattle.std.specs.List.{AllByRecursion}
use Rattle.vxcat_store.specs.StoreState.{AskedOnly}

push : (P : List ℕ → Type 0) (more : List (List ℕ)) (name : List ℕ) → AllByRecursion P more → P name → AllByRecursion P (more ++ name ∷ [])
push P [] name all one = (one, tt)
push P (n ∷ more) name all one = (all.0, push P more name all.1 one)

pub asked_none : (names before : List (List ℕ)) → AskedOnly names before before
asked_none names before = ([], sym (append-nil before), tt)

pub asked_more : {E : Type 0} (names before mid after : List (List ℕ)) (name : List ℕ) → AskedOnly names before mid → Contains names name → (after ≡ mid ++ name ∷ []) ⊎ ((after ≡ mid) × E) → AskedOnly names before after
asked_more names before mid after name so_far among (inl grew) = (
  so_far.0 ++ name ∷ [],
  grew ∙ ap (λ (l : List (List ℕ)). l ++ name ∷ []) so_far.1 ∙ append_assoc before so_far.0 (name ∷ []),
  push (λ n. Contains names n) so_far.0 name so_far.2 among,
)
asked_more names before mid after name so_far among (inr same) = (so_far.0, same.0 ∙ so_far.1, so_far.2)

both : (P : List ℕ → Type 0) (first last : List (List ℕ)) → AllByRecursion P first → AllByRecursion P last → AllByRecursion P (first ++ last)
both P [] last all some = some
both P (n ∷ first) last all some = (all.0, both P first last all.1 some)

wider : (P Q : List ℕ → Type 0) (names : List (List ℕ)) → ((n : List ℕ) → P n → Q n) → AllByRecursion P names → AllByRecursion Q names
wider P Q [] f all = tt
wider P Q (n ∷ names) f all = (f n all.0, wider P Q names f all.1)

-- Names that were asked for after three others.
pub asked_last : (a b c : List ℕ) (names before mid after : List (List ℕ)) → AskedOnly (a ∷ b ∷ c ∷ names) before mid → AskedOnly names mid after → AskedOnly (a ∷ b ∷ c ∷ names) before after
asked_last a b c names before mid after so_far last = (
  so_far.0 ++ last.0,
  last.1 ∙ ap (λ (l : List (List ℕ)). l ++ last.0) so_far.1 ∙ append_assoc before so_far.0 last.0,
  both _ so_far.0 last.0 so_far.2 (wider (λ n. Contains names n) _ last.0 (λ n h. (suc (suc (suc h.0)), omega (arith, h.1), h.2)) last.2),
)
