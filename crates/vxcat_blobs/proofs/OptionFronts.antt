-- Words give options in at most one way.
use Rattle.std.proofs.Common.{◌≡◌, ℕ, List, [], ◌∷◌, ◌++◌, Option, Some, None, ◌<◌, ◌^◌, codes, decimal, get_or, drop, refl, sym, ap, ◌∙◌, arith}
use Rattle.std.specs.List.{AllByRecursion, flat_map}
use Rattle.std.proofs.lemmas.Fmt.{decimal_injective}
use Rattle.vxcat_blobs.specs.Options.{IsInRange, Setting, pad, rows, allow, unknown, deep, revised, setting_words}
use Rattle.vxcat_blobs.specs.GivenOptions.{Given, Gives, with_setting, with_settings}

-- The fifth letter of the first word. No two options have the same there.
letter_at : (a b : List (List ℕ)) → a ≡ b → get_or (get_or a 0 []) 4 0 ≡ get_or (get_or b 0 []) 4 0
letter_at a b same = ap (λ (l : List (List ℕ)). get_or (get_or l 0 []) 4 0) same

second : (a b : List (List ℕ)) → a ≡ b → get_or a 1 [] ≡ get_or b 1 []
second a b same = ap (λ (l : List (List ℕ)). get_or l 1 []) same

behind : (a b : List (List ℕ)) → a ≡ b → drop 2 a ≡ drop 2 b
behind a b same = ap (λ (l : List (List ℕ)). drop 2 l) same

behind_one : (a b : List (List ℕ)) → a ≡ b → drop 1 a ≡ drop 1 b
behind_one a b same = ap (λ (l : List (List ℕ)). drop 1 l) same

-- The option at the front of words is determined by them, and so is what stands after it.
pub front : (c d : Setting) (rest other : List (List ℕ)) → IsInRange c → IsInRange d → setting_words c ++ rest ≡ setting_words d ++ other → (c ≡ d) × (rest ≡ other)
front (pad n) (pad m) rest other fits also same = (ap (λ (k : ℕ). pad k) (decimal_injective n m fits also (second _ _ same)), behind _ _ same)
front (rows n) (rows m) rest other few also same =
    (ap (λ (k : ℕ). rows k) (decimal_injective n m (omega (arith, few)) (omega (arith, also)) (second _ _ same)), behind _ _ same)
front (allow n) (allow m) rest other fits also same = (ap (λ (k : List ℕ). allow k) (second _ _ same), behind _ _ same)
front unknown unknown rest other fits also same = (refl, behind_one _ _ same)
front deep deep rest other fits also same = (refl, behind_one _ _ same)
front revised revised rest other fits also same = (refl, behind_one _ _ same)
front c d rest other fits also same = absurd (omega (arith, letter_at _ _ same))

-- Options that have two of one kind stay invalid with more options.
pub with_settings-None : (settings : List Setting) → with_settings None settings ≡ None
with_settings-None [] = refl
with_settings-None (setting ∷ settings) = with_settings-None settings

no_words : (setting : Setting) (rest : List (List ℕ)) → [] ≡ setting_words setting ++ rest → ⊥
no_words unknown rest same = cc
no_words setting rest same = cc

-- One more option at the front.
pub one_more : (before next after : Given) (setting : Setting) (words rest : List (List ℕ)) → words ≡ setting_words setting ++ rest → IsInRange setting → with_setting before setting ≡ Some next
    → Gives next rest after → Gives before words after
one_more before next after setting words rest words_are in_range given gives = record {
  settings = setting ∷ gives.settings;
  words_are = words_are ∙ ap (λ (l : List (List ℕ)). setting_words setting ++ l) gives.words_are ∙ same_list;
  in_range = (in_range, gives.in_range);
  once = ap (λ (o : Option Given). with_settings o gives.settings) given ∙ gives.once;
} where
  same_list : setting_words setting ++ flat_map setting_words gives.settings ≡ flat_map setting_words (setting ∷ gives.settings)
  same_list = refl

-- Words that are not empty and begin with no option give none.
pub not_begun : (before after : Given) (words : List (List ℕ)) → (words ≡ [] → ⊥) → ((setting : Setting) (rest : List (List ℕ)) → IsInRange setting → words ≡ setting_words setting ++ rest → ⊥) → Gives before words after → ⊥
not_begun before after words some none gives = by_settings gives.settings gives.words_are gives.in_range where
  by_settings : (settings : List Setting) → words ≡ flat_map setting_words settings → AllByRecursion IsInRange settings → ⊥
  by_settings [] is ranges = some is
  by_settings (setting ∷ settings) is ranges = none setting (flat_map setting_words settings) ranges.0 is

-- Words that begin with an option give what the rest gives added to it.
pub rest_given : (before after : Given) (setting : Setting) (words rest : List (List ℕ)) → words ≡ setting_words setting ++ rest → IsInRange setting → Gives before words after
    → (more : List Setting) × (rest ≡ flat_map setting_words more) × AllByRecursion IsInRange more × (with_settings (with_setting before setting) more ≡ Some after)
rest_given before after setting words rest words_are in_range gives = by_settings gives.settings gives.words_are gives.in_range gives.once where
  by_settings : (settings : List Setting) → words ≡ flat_map setting_words settings → AllByRecursion IsInRange settings → with_settings (Some before) settings ≡ Some after
      → (more : List Setting) × (rest ≡ flat_map setting_words more) × AllByRecursion IsInRange more × (with_settings (with_setting before setting) more ≡ Some after)
  by_settings [] is ranges once = absurd (no_words setting rest (sym is ∙ words_are))
  by_settings (c ∷ settings) is ranges once =
      let same = front setting c rest (flat_map setting_words settings) in_range ranges.0 (sym words_are ∙ is) in
      (settings, same.1, ranges.1, ap (λ (d : Setting). with_settings (with_setting before d) settings) same.0 ∙ once)

-- An option that was given before is not given again.
pub given_twice : (before after : Given) (setting : Setting) (words rest : List (List ℕ)) → words ≡ setting_words setting ++ rest → IsInRange setting → with_setting before setting ≡ None → Gives before words after → ⊥
given_twice before after setting words rest words_are in_range refused gives =
    let more = rest_given before after setting words rest words_are in_range gives in
    let never = sym (with_settings-None more.0) ∙ ap (λ (o : Option Given). with_settings o more.0) (sym refused) ∙ more.3 in
    cc

-- Where the rest gives no options, neither do all the words.
pub rest_not_given : (before next : Given) (setting : Setting) (words rest : List (List ℕ)) → words ≡ setting_words setting ++ rest → IsInRange setting → with_setting before setting ≡ Some next
    → ((after : Given) → Gives next rest after → ⊥) → (after : Given) → Gives before words after → ⊥
rest_not_given before next setting words rest words_are in_range given none after gives =
    let more = rest_given before after setting words rest words_are in_range gives in
    none after (record { settings = more.0; words_are = more.1; in_range = more.2; once = ap (λ (o : Option Given). with_settings o more.0) (sym given) ∙ more.3 })

-- A number of rows over 1,000 is no option.
pub too_many_rows : (setting : Setting) (rest other : List (List ℕ)) (n : ℕ) → 1000 < n → n < 2 ^ 64 → IsInRange setting → codes "--rows" ∷ decimal n ∷ other ≡ setting_words setting ++ rest → ⊥
too_many_rows (rows m) rest other n many fits range same =
    let is : n ≡ m = decimal_injective n m fits (omega (arith, range)) (second _ _ same) in
    omega (arith, is, many, range)
too_many_rows setting rest other n many fits range same = absurd (omega (arith, letter_at _ _ same))

-- Words are one list of options at most.
pub settings_same : (cs ds : List Setting) → AllByRecursion IsInRange cs → AllByRecursion IsInRange ds → flat_map setting_words cs ≡ flat_map setting_words ds → cs ≡ ds
settings_same [] [] first second same = refl
settings_same [] (d ∷ ds) first second same = absurd (no_words d (flat_map setting_words ds) same)
settings_same (c ∷ cs) [] first second same = absurd (no_words c (flat_map setting_words cs) (sym same))
settings_same (c ∷ cs) (d ∷ ds) first second same =
    let parts = front c d (flat_map setting_words cs) (flat_map setting_words ds) first.0 second.0 same in
    let tails = settings_same cs ds first.1 second.1 parts.1 in
    (λ k. parts.0 k ∷ tails k)
