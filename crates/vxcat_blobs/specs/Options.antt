-- The options of a command.
use Rattle.std.specs.Prelude.{ℕ, ◌<◌, ◌≤◌, ◌^◌, Bool, true, false, List, [], ◌∷◌, Option, Some, None, codes, decimal, length, slice_get, unwrap_or}
use Rattle.std.specs.List.{AllByRecursion, filter_map}

-- An option after the words of a command: the position at which pads are written as if the blob stood there, the number
-- of rows of a listing, the file of the identifiers that the new blob may have, that unknown encodings and unknown
-- extensions are allowed, that deep trees are, or that primitives have two identifiers.
pub data Setting : Type 0 where
  pad : ℕ → Setting
  rows : ℕ → Setting
  allow : List ℕ → Setting
  unknown : Setting
  deep : Setting
  revised : Setting

-- An option is written as its name, and after it its number or the file's name, if it has one.
abbrev pub setting_words : Setting → List (List ℕ)
setting_words (pad n) = codes "--pad" ∷ decimal n ∷ []
setting_words (rows n) = codes "--rows" ∷ decimal n ∷ []
setting_words (allow name) = codes "--allow" ∷ name ∷ []
setting_words unknown = codes "--unknown" ∷ []
setting_words deep = codes "--deep" ∷ []
setting_words revised = codes "--rev2" ∷ []

-- A position lies below 2^64, and a listing has at most 1,000 rows. A file may have any name.
abbrev pub IsInRange : Setting → Type 0
IsInRange (pad n) = n < 2 ^ 64
IsInRange (rows n) = n ≤ 1000
IsInRange (allow name) = Unit {0}
IsInRange unknown = Unit {0}
IsInRange deep = Unit {0}
IsInRange revised = Unit {0}

-- What an option gives for `--pad`, `--rows`, `--allow`, `--unknown`, `--deep` and `--rev2`, if it is that one.
abbrev pub pad_of : Setting → Option ℕ
pad_of (pad n) = Some n
pad_of (rows n) = None
pad_of (allow name) = None
pad_of unknown = None
pad_of deep = None
pad_of revised = None

abbrev pub rows_of : Setting → Option ℕ
rows_of (pad n) = None
rows_of (rows n) = Some n
rows_of (allow name) = None
rows_of unknown = None
rows_of deep = None
rows_of revised = None

abbrev pub allow_of : Setting → Option (List ℕ)
allow_of (pad n) = None
allow_of (rows n) = None
allow_of (allow name) = Some name
allow_of unknown = None
allow_of deep = None
allow_of revised = None

abbrev pub unknown_of : Setting → Option Bool
unknown_of (pad n) = None
unknown_of (rows n) = None
unknown_of (allow name) = None
unknown_of unknown = Some true
unknown_of deep = None
unknown_of revised = None

abbrev pub deep_of : Setting → Option Bool
deep_of (pad n) = None
deep_of (rows n) = None
deep_of (allow name) = None
deep_of unknown = None
deep_of deep = Some true
deep_of revised = None

abbrev pub revised_of : Setting → Option Bool
revised_of (pad n) = None
revised_of (rows n) = None
revised_of (allow name) = None
revised_of unknown = None
revised_of deep = None
revised_of revised = Some true

-- Options stand in any order, each in its range, and no two of one kind.
pub record AreOptions (given : List Setting) : Type 0 where
  pub in_range : AllByRecursion IsInRange given
  pub pad_once : length (filter_map pad_of given) ≤ 1
  pub rows_once : length (filter_map rows_of given) ≤ 1
  pub allow_once : length (filter_map allow_of given) ≤ 1
  pub unknown_once : length (filter_map unknown_of given) ≤ 1
  pub deep_once : length (filter_map deep_of given) ≤ 1
  pub revised_once : length (filter_map revised_of given) ≤ 1

-- What options set: the position at which pads are written as if the blob stood there, if any; the number of rows of a
-- listing; the file of the identifiers that the new blob may have, if any; whether unknown encodings and unknown
-- extensions are allowed; whether deep trees are; and whether primitives have two identifiers.
pub record Settings : Type 0 where
  pub pad : Option ℕ
  pub rows : ℕ
  pub allow : Option (List ℕ)
  pub unknown : Bool
  pub deep : Bool
  pub revised : Bool

-- A listing has as many rows as `--rows` says, and ten without it. What is unknown is allowed where `--unknown` is
-- given, deep trees where `--deep` is, and primitives have two identifiers where `--rev2` is.
abbrev pub settings_of : List Setting → Settings
settings_of given = record {
  pad = slice_get (filter_map pad_of given) 0;
  rows = unwrap_or (slice_get (filter_map rows_of given) 0) 10;
  allow = slice_get (filter_map allow_of given) 0;
  unknown = unwrap_or (slice_get (filter_map unknown_of given) 0) false;
  deep = unwrap_or (slice_get (filter_map deep_of given) 0) false;
  revised = unwrap_or (slice_get (filter_map revised_of given) 0) false;
}
