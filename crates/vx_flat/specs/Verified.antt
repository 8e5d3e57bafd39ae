-- What verifying a message gives.
use Rattle.std.specs.Prelude.{ℕ, List, Result, IsOk, IsErrOf, IfOk, OnOk}
use Rattle.vx_flat.specs.declared.viewing.View.{View}
use Rattle.vx_flat.specs.declared.error.FlatError.{FlatError}
use Rattle.vx_flat.specs.declared.error.FlatError.TheVariants.{OutOfMemory, BadTable, TableLimit}
use Rattle.vx_flat.specs.declared.error.FlatError.TheVariants.{MessageTooLong}
use Rattle.vx_flat.specs.Schema.{Schema}
use Rattle.vx_flat.specs.Value.{Fields}
use Rattle.vx_flat.specs.Shows.{Shows}
use Rattle.vx_flat.specs.Weight.{weight}
use Rattle.vx_flat.specs.Limits.{Limits, KeepsLimits}
use Rattle.vx_flat.specs.Seen.{IsRootView}

-- A message that shows a value of a schema within the limits gives the view of its root, and each
-- other message the error that says why. No memory is taken.
pub record Verified (s : Schema) (l : Limits) (m : List ℕ) (r : Result View FlatError) : Type 0 where
  pub shows : IfOk r (λ v. IsRootView s m v)
  pub within_limits : OnOk r (KeepsLimits l (weight s m))
  pub bad : IsErrOf r BadTable → (v : Fields) → Shows s m v → ⊥
  pub limit : IsErrOf r TableLimit → KeepsLimits l (weight s m) → ⊥
  pub takes_no_memory : IsErrOf r OutOfMemory → ⊥
  pub never_long : IsErrOf r MessageTooLong → ⊥
  pub complete : (v : Fields) → Shows s m v → KeepsLimits l (weight s m) → IsOk r
