-- A scalar that can be written.
use Rattle.vx_types.specs.Fits.{Fits}
use Rattle.vx_types.specs.Typ.{IsType}
use Rattle.vx_types.specs.Well.{IsWell}
use Rattle.vx_scalars.specs.Told.{Typed}

-- The value fits the type, and the parts of both are such as they may be.
pub record IsTyped (s : Typed) : Type 0 where
  pub is_type : IsType s.dtype
  pub well : IsWell s.value
  pub fits : Fits s.value s.dtype
