-- What contracts see of a file of which ranges are loaded.
use Rattle.std.specs.Prelude.{ℕ, ◌≡◌, ◌+◌, ◌-◌, ◌^◌, ◌≤◌, min, max, Option, Some, List}

-- A file is seen as its bytes, where they are told, their number, the number of loads that failed, and the number of bytes
-- that were loaded.
pub record RangesState : Type 0 where
  pub told : Option (List ℕ)
  pub size : ℕ
  pub faults : ℕ
  pub taken : ℕ

-- A count of faults has risen; one that stands at 2^64 - 1 cannot count further, and counts as risen.
abbrev pub HasRisen : ℕ → ℕ → Type 0
HasRisen before after = min (before + 1) (2 ^ 64 - 1) ≤ after

-- A count of bytes after so many more were loaded: it stops at its last value.
abbrev pub after_taking : ℕ → ℕ → ℕ
after_taking taken n = max taken (min (taken + n) (2 ^ 128 - 1))

-- The same file, of which ranges were loaded, and nothing else.
pub record IsSameFile (before after : RangesState) : Type 0 where
  pub told : after.told ≡ before.told
  pub size : after.size ≡ before.size
  pub faults : before.faults ≤ after.faults
  pub taken : before.taken ≤ after.taken

-- So many bytes were loaded of the same file, and no load failed.
pub record HasTaken (n : ℕ) (before after : RangesState) : Type 0 where
  pub told : after.told ≡ before.told
  pub size : after.size ≡ before.size
  pub faults : after.faults ≡ before.faults
  pub taken : after.taken ≡ after_taking before.taken n

-- The file tells that these are its bytes.
abbrev pub Tells : RangesState → List ℕ → Type 0
Tells state bytes = state.told ≡ Some bytes
