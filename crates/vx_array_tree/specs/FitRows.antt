-- What holds of the rows of a sound array.
use Rattle.std.specs.Prelude.{ℕ, ◌≡◌, ◌<◌, ◌⊎◌, Some, false}
use Rattle.vx_types.specs.Fits.{Fits, IsVariant}
use Rattle.vx_types.specs.Typ.{Typ}
use Rattle.vx_types.specs.Value.{opaque, lone, has_opaque}
use Rattle.vx_types.specs.Words.{nullability}
use Rattle.vx_types.specs.declared.nullability.Nullability.TheVariants.{Nullable}
use Rattle.vx_array_tree.specs.Rows.{Rows}

-- Rows fit a type: each one's value where nothing in it is opaque, and none is missing but where that may be.
-- A variant is opaque as a whole or nowhere.
pub record FitRows (d : Typ) (n : ℕ) (r : Rows) : Type 0 where
  pub fits : (i : ℕ) → i < n → has_opaque (r.row i) ≡ false → Fits (r.row i) d
  pub missing : (i : ℕ) → i < n → r.valid i ≡ Some false → nullability d ≡ Nullable
  pub whole : IsVariant d → (i : ℕ) → i < n → (has_opaque (r.row i) ≡ false) ⊎ (r.row i ≡ lone opaque)
