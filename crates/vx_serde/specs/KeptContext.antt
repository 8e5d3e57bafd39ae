-- What becomes of a context while identifiers are taken into it.
use Rattle.std.specs.Prelude.{ℕ, ◌≡◌, List, ◌++◌, All, Contains}
use Rattle.vx_wire_tree.specs.Context.{Context}

-- The identifiers from before stay in front, each one that was added is among those that were taken, and the
-- permissions stay.
pub record KeepsContext (taken : List (List ℕ)) (before after : Context) : Type 0 where
  pub added : List (List ℕ)
  pub front : after.ids ≡ before.ids ++ added
  pub among : All (λ id. Contains taken id) added
  pub permissions : after.allowed ≡ before.allowed
