-- A list of seven texts or more by its elements.
use Rattle.std.proofs.Common.{◌≡◌, ℕ, ◌≤◌, List, [], ◌∷◌, ◌-◌, length, get_or, take, drop, length-drop, ap, ◌∙◌, arith}
use Rattle.std.proofs.lemmas.List.{take_all}
use Rattle.std.specs.List.{flat_map}
use Rattle.vxcat_blobs.specs.Options.{setting_words}
use Rattle.vxcat_blobs.specs.Recode.{InvokesRecode, Recode}

pub seven : (ws rest : List (List ℕ)) (a b c d e f g : List ℕ) → 7 ≤ length ws → rest ≡ drop 7 ws → a ≡ get_or ws 0 a → b ≡ get_or ws 1 b → c ≡ get_or ws 2 c → d ≡ get_or ws 3 d → e ≡ get_or ws 4 e → f ≡ get_or ws 5 f → g ≡ get_or ws 6 g → ws ≡ a ∷ b ∷ c ∷ d ∷ e ∷ f ∷ g ∷ rest
seven (x0 ∷ x1 ∷ x2 ∷ x3 ∷ x4 ∷ x5 ∷ x6 ∷ xs) rest a b c d e f g long is p0 p1 p2 p3 p4 p5 p6 = cc
seven [] rest a b c d e f g long is p0 p1 p2 p3 p4 p5 p6 = absurd (omega (arith, long))
seven (x0 ∷ []) rest a b c d e f g long is p0 p1 p2 p3 p4 p5 p6 = absurd (omega (arith, long))
seven (x0 ∷ x1 ∷ []) rest a b c d e f g long is p0 p1 p2 p3 p4 p5 p6 = absurd (omega (arith, long))
seven (x0 ∷ x1 ∷ x2 ∷ []) rest a b c d e f g long is p0 p1 p2 p3 p4 p5 p6 = absurd (omega (arith, long))
seven (x0 ∷ x1 ∷ x2 ∷ x3 ∷ []) rest a b c d e f g long is p0 p1 p2 p3 p4 p5 p6 = absurd (omega (arith, long))
seven (x0 ∷ x1 ∷ x2 ∷ x3 ∷ x4 ∷ []) rest a b c d e f g long is p0 p1 p2 p3 p4 p5 p6 = absurd (omega (arith, long))
seven (x0 ∷ x1 ∷ x2 ∷ x3 ∷ x4 ∷ x5 ∷ []) rest a b c d e f g long is p0 p1 p2 p3 p4 p5 p6 = absurd (omega (arith, long))

-- What stands after seven words, as a slice of them.
abbrev pub behind : List (List ℕ) → List (List ℕ)
behind words = take (length words - 7) (drop 7 words)

pub behind-is : (words : List (List ℕ)) → behind words ≡ drop 7 words
behind-is words = take_all (length words - 7) (drop 7 words) (omega (arith, length-drop 7 words))

-- The options of a command stand there.
pub options_behind : (words : List (List ℕ)) (line : Recode) (invoked : InvokesRecode words line) → behind words ≡ flat_map setting_words invoked.given
options_behind words line invoked = behind-is words ∙ ap (λ (l : List (List ℕ)). drop 7 l) invoked.words_are
