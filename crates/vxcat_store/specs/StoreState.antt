-- What contracts see of a store.
use Rattle.std.specs.Prelude.{◌≡◌, ℕ, ◌+◌, ◌-◌, ◌^◌, ◌≤◌, min, Bool, false, IsTrue, Option, None, Some, List, [], ◌++◌, Contains}
use Rattle.std.specs.List.{AllByRecursion}

-- A store is seen as whether it tells what stands at its names, what stands at each name, the names that it was asked
-- for so far in their order, and the number of its loads and of its saves that failed.
pub record StoreState : Type 0 where
  pub tells : Bool
  pub file : List ℕ → Option (List ℕ)
  pub asked : List (List ℕ)
  pub load_faults : ℕ
  pub save_faults : ℕ

-- A store that tells nothing, of which nothing was asked and nothing failed.
abbrev pub untold : StoreState
untold = record { tells = false; file = λ name. None; asked = []; load_faults = 0; save_faults = 0 }

-- A count of faults has risen; a count of 2^64 - 1 cannot rise further, and counts as risen.
abbrev pub HasRisen : ℕ → ℕ → Type 0
HasRisen before after = min (before + 1) (2 ^ 64 - 1) ≤ after

-- These bytes stand at the name, as far as the store tells.
abbrev pub Stands : StoreState → List ℕ → List ℕ → Type 0
Stands store name bytes = IsTrue store.tells → store.file name ≡ Some bytes

-- Only these names were asked for since.
abbrev pub AskedOnly : List (List ℕ) → List (List ℕ) → List (List ℕ) → Type 0
AskedOnly names before after = (more : List (List ℕ)) × (after ≡ before ++ more) × AllByRecursion (λ name. Contains names name) more

-- Nothing was loaded: no name was asked for, and no load failed.
pub record LoadsNothing (before after : StoreState) : Type 0 where
  pub asked : after.asked ≡ before.asked
  pub load_faults : after.load_faults ≡ before.load_faults
