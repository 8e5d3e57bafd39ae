-- What contracts see of a scalar.
use Rattle.std.specs.Prelude.{refl}
use Rattle.std.specs.Coded.{Coded, code_by, coded×}
use Rattle.vx_types.specs.Typ.{Typ, typ_code}
use Rattle.vx_types.specs.Value.{Value, value_code}

-- A type, and a value.
pub record Typed : Type 0 where
  pub dtype : Typ
  pub value : Value

-- The code of a scalar, by its two parts.
abbrev pub typed_code : Coded Typed
typed_code = code_by (Typ × Value) (coded× typ_code value_code) (λ s. (s.dtype, s.value)) (λ p. record { dtype = p.0; value = p.1 }) (λ _. refl)
