-- What stands in a sink when a text was written to it, whole or in part.
use Rattle.std.specs.Prelude.{◌≡◌, ℕ, Option, List, ◌++◌}
use Rattle.std.specs.Io.KnownBytes.{Appends}

-- A list is a prefix of a text where the text is that list and something after it.
abbrev pub IsPrefixOf : List ℕ → List ℕ → Type 0
IsPrefixOf front text = (rest : List ℕ) × (front ++ rest ≡ text)

-- Some prefix of the text was written, possibly none of it or all.
abbrev pub AppendsPrefix : Option (List ℕ) → Option (List ℕ) → List ℕ → Type 0
AppendsPrefix before after text = (front : List ℕ) × IsPrefixOf front text × Appends before after front
