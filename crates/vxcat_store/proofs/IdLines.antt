-- The lines of a text are determined by it.
use Rattle.std.proofs.Common.{◌≡◌, ◌≢◌, ◌⊎◌, inl, inr, ℕ, ◌<◌, ◌≤◌, List, [], ◌∷◌, ◌++◌, length, take, drop, get_or, Bool, true, false, ◌==◌, length-take, get_or-take, refl, sym, ◌∙◌, ap, subst, arith, append_assoc, length-append}
use Rattle.std.specs.List.{AllByRecursion, position_or_len, before_first, after_first}
use Rattle.std.proofs.lemmas.List.{take_all, append-nil}
use Rattle.std.proofs.lemmas.List.Elements.{recursion_from_All}
use Rattle.std.proofs.lemmas.List.Sums.{fails_before_first, passes_at_first, split_at_first}
use Rattle.std.proofs.lemmas.Bool.Decides.{nat_tests}
use Rattle.vxcat_store.specs.IdFile.{id_text, IsIdLine, HasLines}

abbrev NoFeed : List ℕ → Type 0
NoFeed l = AllByRecursion (λ byte. byte ≢ 10) l

cut : (l m x y : List ℕ) → NoFeed l → NoFeed m → l ++ 10 ∷ x ≡ m ++ 10 ∷ y → (l ≡ m) × (x ≡ y)
cut [] [] x y nl nm is = (refl, ap (λ (l : List ℕ). drop 1 l) is)
cut [] (c ∷ m) x y nl nm is = absurd (nm.0 (sym (ap (λ (l : List ℕ). get_or l 0 0) is)))
cut (c ∷ l) [] x y nl nm is = absurd (nl.0 (ap (λ (l : List ℕ). get_or l 0 0) is))
cut (c ∷ l) (d ∷ m) x y nl nm is =
    let tails = cut l m x y nl.1 nm.1 (ap (λ (l : List ℕ). drop 1 l) is) in
    let heads : c ≡ d = ap (λ (l : List ℕ). get_or l 0 0) is in
    ((λ i. heads i ∷ tails.0 i), tails.1)

-- One line, and what stands after it.
behind : (id : List ℕ) (ids : List (List ℕ)) (rest : List ℕ) → id_text (id ∷ ids) ++ rest ≡ id ++ 10 ∷ (id_text ids ++ rest)
behind id ids rest = append_assoc (id ++ 10 ∷ []) (id_text ids) rest ∙ append_assoc id (10 ∷ []) (id_text ids ++ rest)

behind_none : (id : List ℕ) (ids : List (List ℕ)) → id_text (id ∷ ids) ≡ id ++ 10 ∷ id_text ids
behind_none id ids = append_assoc id (10 ∷ []) (id_text ids)

not_none : (id x : List ℕ) → id ++ 10 ∷ x ≡ [] → ⊥
not_none [] x is = cc
not_none (c ∷ id) x is = cc

-- The lines at the front of a text are the first of its lines.
pub record Peeled (ids : List (List ℕ)) (rest : List ℕ) (all : List (List ℕ)) : Type 0 where
  pub tail : List (List ℕ)
  pub split : all ≡ ids ++ tail
  pub lines : HasLines rest tail

pub peel : (ids : List (List ℕ)) (rest : List ℕ) (all : List (List ℕ)) → AllByRecursion IsIdLine ids → HasLines (id_text ids ++ rest) all → Peeled ids rest all
peel [] rest all good h = record { tail = all; split = refl; lines = h }
peel (id ∷ ids) rest [] good h = absurd (elim h.text [
  | inl whole ↦ not_none id (id_text ids ++ rest) (sym (behind id ids rest) ∙ whole)
  | inr cut_off ↦ not_none id ((id_text ids ++ rest) ++ 10 ∷ []) (sym (append_assoc id (10 ∷ (id_text ids ++ rest)) (10 ∷ [])) ∙ ap (λ (l : List ℕ). l ++ 10 ∷ []) (sym (behind id ids rest)) ∙ cut_off)
])
peel (id ∷ ids) rest (a ∷ all) good h =
    let parts : (id ≡ a) × HasLines (id_text ids ++ rest) all = elim h.text [
      | inl whole ↦
          let two = cut id a (id_text ids ++ rest) (id_text all) good.0.1 h.lines.0.1 (sym (behind id ids rest) ∙ whole ∙ behind_none a all) in
          (two.0, record { lines = h.lines.1; text = inl two.1 })
      | inr cut_off ↦
          let two = cut id a ((id_text ids ++ rest) ++ 10 ∷ []) (id_text all) good.0.1 h.lines.0.1 (sym (append_assoc id (10 ∷ (id_text ids ++ rest)) (10 ∷ [])) ∙ ap (λ (l : List ℕ). l ++ 10 ∷ []) (sym (behind id ids rest)) ∙ cut_off ∙ behind_none a all) in
          (two.0, record { lines = h.lines.1; text = inr two.1 })
    ] in
    let more = peel ids rest all good.1 parts.1 in
    record { tail = more.tail; split = (λ i. sym parts.0 i ∷ more.split i); lines = more.lines }

-- No text begins with an empty line.
pub no_empty_line : (after : List ℕ) (all : List (List ℕ)) → HasLines (10 ∷ after) all → ⊥
no_empty_line after [] h = elim h.text [ inl whole ↦ cc | inr cut_off ↦ cc ]
no_empty_line after ([] ∷ all) h = omega (arith, h.lines.0.0)
no_empty_line after ((c ∷ id) ∷ all) h = elim h.text [
  | inl whole ↦ h.lines.0.1.0 (sym (ap (λ (l : List ℕ). get_or l 0 0) whole))
  | inr cut_off ↦ h.lines.0.1.0 (sym (ap (λ (l : List ℕ). get_or l 0 0) cut_off))
]

-- Bytes that are left are at least one line.
pub one_line_left : (b : ℕ) (rest : List ℕ) (all : List (List ℕ)) → HasLines (b ∷ rest) all → 1 ≤ length all
one_line_left b rest [] h = absurd (elim h.text [ inl whole ↦ cc | inr cut_off ↦ cc ])
one_line_left b rest (a ∷ all) h = omega arith

-- After as many lines as are allowed no byte may stand.
pub too_many : (ids : List (List ℕ)) (b : ℕ) (rest : List ℕ) (all : List (List ℕ)) → AllByRecursion IsIdLine ids → 65536 ≤ length ids → HasLines (id_text ids ++ b ∷ rest) all → length all ≤ 65536 → ⊥
too_many ids b rest all good many h few =
    let p = peel ids (b ∷ rest) all good h in
    let left = one_line_left b rest p.tail p.lines in
    omega (arith, few, many, left, ap length p.split, length-append ids p.tail)

pub push_line : (ids : List (List ℕ)) (id : List ℕ) → AllByRecursion IsIdLine ids → IsIdLine id → AllByRecursion IsIdLine (ids ++ id ∷ [])
push_line [] id good one = (one, tt)
push_line (a ∷ ids) id good one = (good.0, push_line ids id good.1 one)

pub id_text_push : (ids : List (List ℕ)) (id rest : List ℕ) → id_text (ids ++ id ∷ []) ++ rest ≡ id_text ids ++ (id ++ 10 ∷ rest)
id_text_push [] id rest = append_assoc (id ++ 10 ∷ []) [] rest ∙ append_assoc id (10 ∷ []) rest
id_text_push (a ∷ ids) id rest = behind a (ids ++ id ∷ []) rest ∙ ap (λ (l : List ℕ). a ++ 10 ∷ l) (id_text_push ids id rest) ∙ sym (behind a ids (id ++ 10 ∷ rest))

abbrev is_feed : ℕ → Bool
is_feed b = b == 10

feed_free : (xs : List ℕ) (n : ℕ) → n ≤ position_or_len is_feed xs → n ≤ length xs → NoFeed (take n xs)
feed_free xs n first within = recursion_from_All (λ (b : ℕ). b ≢ 10) (take n xs) (λ k d lt is.
    let below : k < n = omega (arith, lt, length-take n xs) in
    let same : get_or (take n xs) k d ≡ get_or xs k d = get_or-take n xs k d below in
    let no : (get_or xs k d == 10) ≡ false = fails_before_first is_feed xs k d (omega (arith, first, below)) in
    let yes : get_or xs k d ≡ 10 = sym same ∙ is in
    grind (arith, nat_tests))

-- The first line of a text, and what stands after its line feed.
pub first_line_is : (xs : List ℕ) → position_or_len is_feed xs < length xs → (xs ≡ before_first is_feed xs ++ 10 ∷ after_first is_feed xs) × NoFeed (before_first is_feed xs)
first_line_is xs within =
    let at = position_or_len is_feed xs in
    let passes : (get_or xs at 0 == 10) ≡ true = passes_at_first is_feed xs 0 within in
    let is : get_or xs at 0 ≡ 10 = grind (arith, nat_tests) in
    (split_at_first is_feed xs 0 within ∙ ap (λ (b : ℕ). before_first is_feed xs ++ b ∷ after_first is_feed xs) is, feed_free xs at (omega arith) (omega (arith, within)))

pub last_line_is : (xs : List ℕ) → position_or_len is_feed xs ≡ length xs → NoFeed xs
last_line_is xs all = subst NoFeed (take_all (length xs) xs (omega arith)) (feed_free xs (length xs) (omega (arith, all)) (omega arith))

-- A line that is refused is no line of the text.
pub refused : (text : List ℕ) (ids : List (List ℕ)) (line after : List ℕ) (all : List (List ℕ)) → AllByRecursion IsIdLine ids → text ≡ id_text ids ++ (line ++ 10 ∷ after) → (length line ≡ 0) ⊎ (65536 ≤ length ids) → HasLines text all → length all ≤ 65536 → ⊥
refused text ids [] after all good split (inl none) h few =
    let p = peel ids (10 ∷ after) all good (subst (λ (l : List ℕ). HasLines l all) split h) in
    no_empty_line after p.tail p.lines
refused text ids [] after all good split (inr many) h few = too_many ids 10 after all good many (subst (λ (l : List ℕ). HasLines l all) split h) few
refused text ids (b ∷ line) after all good split (inl none) h few = absurd (omega (arith, none))
refused text ids (b ∷ line) after all good split (inr many) h few = too_many ids b (line ++ 10 ∷ after) all good many (subst (λ (l : List ℕ). HasLines l all) split h) few

-- Nor is one at the end.
pub refused_last : (text : List ℕ) (ids : List (List ℕ)) (line : List ℕ) (all : List (List ℕ)) → AllByRecursion IsIdLine ids → text ≡ id_text ids ++ line → 0 < length line → (length line ≡ 0) ⊎ (65536 ≤ length ids) → HasLines text all → length all ≤ 65536 → ⊥
refused_last text ids line all good split some (inl none) h few = omega (arith, none, some)
refused_last text ids [] all good split some (inr many) h few = omega (arith, some)
refused_last text ids (b ∷ line) all good split some (inr many) h few = too_many ids b line all good many (subst (λ (l : List ℕ). HasLines l all) split h) few

-- The last line has no line feed.
pub ends_without : (text : List ℕ) (ids : List (List ℕ)) (line : List ℕ) → AllByRecursion IsIdLine ids → text ≡ id_text ids ++ line → IsIdLine line → HasLines text (ids ++ line ∷ [])
ends_without text ids line good split one = record {
  lines = push_line ids line good one;
  text = inr (ap (λ (l : List ℕ). l ++ 10 ∷ []) split ∙ append_assoc (id_text ids) line (10 ∷ []) ∙ sym (id_text_push ids line []) ∙ append-nil (id_text (ids ++ line ∷ [])));
}

none_left : (tail : List (List ℕ)) → HasLines [] tail → tail ≡ []
none_left [] h = refl
none_left ([] ∷ tail) h = absurd (omega (arith, h.lines.0.0))
none_left ((c ∷ id) ∷ tail) h = absurd (elim h.text [
  | inl whole ↦ cc
  | inr cut_off ↦ h.lines.0.1.0 (sym (ap (λ (l : List ℕ). get_or l 0 0) cut_off))
])

whole_unique : (ids all : List (List ℕ)) → AllByRecursion IsIdLine ids → HasLines (id_text ids) all → all ≡ ids
whole_unique ids all good h =
    let p = peel ids [] all good (subst (λ (l : List ℕ). HasLines l all) (sym (append-nil (id_text ids))) h) in
    p.split ∙ ap (λ (l : List (List ℕ)). ids ++ l) (none_left p.tail p.lines) ∙ append-nil ids

-- The lines of a text are determined by it.
pub lines_unique : (bytes : List ℕ) (ids all : List (List ℕ)) → HasLines bytes ids → HasLines bytes all → all ≡ ids
lines_unique bytes ids all h k = elim h.text [
  | inl whole ↦ whole_unique ids all h.lines (subst (λ (l : List ℕ). HasLines l all) whole k)
  | inr cut_off ↦ elim k.text [
    | inl whole ↦
        let both : HasLines (id_text all ++ 10 ∷ []) ids = record { lines = h.lines; text = inl (ap (λ (l : List ℕ). l ++ 10 ∷ []) (sym whole) ∙ cut_off) } in
        let p = peel all (10 ∷ []) ids k.lines both in
        absurd (no_empty_line [] p.tail p.lines)
    | inr same ↦ whole_unique ids all h.lines (record { lines = k.lines; text = inl (sym cut_off ∙ same) })
  ]
]
