-- Bytes that are known and are appended to twice.
use Rattle.std.proofs.Common.{◌≡◌, ℕ, Option, None, Some, List, [], ◌++◌, take, drop, refl, sym, ◌∙◌, ap, append_assoc, take-append-drop}
use Rattle.std.proofs.lemmas.List.{append-nil}
use Rattle.std.specs.Io.KnownBytes.{Appends}
use Rattle.vxcat_store.specs.Written.{AppendsPrefix}

pub appends_same : (old : Option (List ℕ)) → Appends old old []
appends_same None = tt
appends_same (Some xs) = sym (append-nil xs)

pub appends_more : (old mid new : Option (List ℕ)) (xs ys : List ℕ) → Appends old mid xs → Appends mid new ys → Appends old new (xs ++ ys)
appends_more None mid new xs ys first second = tt
appends_more (Some a) None new xs ys first second = absurd first
appends_more (Some a) (Some b) None xs ys first second = absurd second
appends_more (Some a) (Some b) (Some c) xs ys first second = second ∙ ap (λ (l : List ℕ). l ++ ys) first ∙ append_assoc a xs ys

-- The prefix so far, and what is left.
abbrev pub AppendsUpTo : Option (List ℕ) → Option (List ℕ) → List ℕ → List ℕ → Type 0
AppendsUpTo old new text rest = (front : List ℕ) × (front ++ rest ≡ text) × Appends old new front

pub up_to_start : (old : Option (List ℕ)) (text : List ℕ) → AppendsUpTo old old text text
up_to_start old text = ([], refl, appends_same old)

pub up_to_more : (old mid new : Option (List ℕ)) (text rest : List ℕ) (n : ℕ) → AppendsUpTo old mid text rest → Appends mid new (take n rest) → AppendsUpTo old new text (drop n rest)
up_to_more old mid new text rest n so_far more = (
  so_far.0 ++ take n rest,
  append_assoc so_far.0 (take n rest) (drop n rest) ∙ ap (λ (l : List ℕ). so_far.0 ++ l) (take-append-drop n rest) ∙ so_far.1,
  appends_more old mid new so_far.0 (take n rest) so_far.2 more,
)

pub up_to_ok : (old mid new : Option (List ℕ)) (text left line rest : List ℕ) → AppendsUpTo old mid text left → left ≡ line ++ rest → Appends mid new line → AppendsUpTo old new text rest
up_to_ok old mid new text left line rest so_far is more = (
  so_far.0 ++ line,
  append_assoc so_far.0 line rest ∙ ap (λ (l : List ℕ). so_far.0 ++ l) (sym is) ∙ so_far.1,
  appends_more old mid new so_far.0 line so_far.2 more,
)

pub up_to_err : (old mid new : Option (List ℕ)) (text left line rest : List ℕ) → AppendsUpTo old mid text left → left ≡ line ++ rest → AppendsPrefix mid new line → AppendsPrefix old new text
up_to_err old mid new text left line rest so_far is part = (
  so_far.0 ++ part.0,
  (
    part.1.0 ++ rest,
    append_assoc so_far.0 part.0 (part.1.0 ++ rest) ∙ ap (λ (l : List ℕ). so_far.0 ++ l) (sym (append_assoc part.0 part.1.0 rest) ∙ ap (λ (l : List ℕ). l ++ rest) part.1.1 ∙ sym is) ∙ so_far.1,
  ),
  appends_more old mid new so_far.0 part.0 so_far.2 part.2,
)
