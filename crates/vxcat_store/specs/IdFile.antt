-- Files of identifiers: one on each line.
use Rattle.std.specs.Prelude.{◌≡◌, ◌≢◌, ◌⊎◌, ℕ, ◌<◌, ◌≤◌, List, ◌++◌, length, codes}
use Rattle.std.specs.List.{flat_map, AllByRecursion}
use Rattle.std.specs.Str.{IsUtf8}

-- The text of a list of identifiers has each of them in order, and a line feed after each.
abbrev pub id_text : List (List ℕ) → List ℕ
id_text ids = flat_map (λ id. id ++ codes "\n") ids

-- A line is not empty and has no line feed inside; any other character may stand in it.
abbrev pub IsIdLine : List ℕ → Type 0
IsIdLine id = (0 < length id) × AllByRecursion (λ byte. byte ≢ 10) id

-- The bytes are these lines, each ended by a line feed, which may be absent after the last. No bytes are no lines.
pub record HasLines (bytes : List ℕ) (ids : List (List ℕ)) : Type 0 where
  pub lines : AllByRecursion IsIdLine ids
  pub text : (bytes ≡ id_text ids) ⊎ (bytes ++ codes "\n" ≡ id_text ids)

-- An id file is UTF-8 and has at most 65,536 lines, and its identifiers are its lines in order.
pub record ReadsIds (bytes : List ℕ) (ids : List (List ℕ)) : Type 0 where
  pub utf8 : IsUtf8 bytes
  pub lines : HasLines bytes ids
  pub few : length ids ≤ 65536
