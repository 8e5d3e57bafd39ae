-- NaNs, by their bits.
use Rattle.std.specs.Prelude.{ℕ, ◌%◌, ◌^◌, nat_lt, if◌then◌else◌, Bool, false}
use Rattle.vx_numbers.specs.declared.value.PValue.{PValue}
use Rattle.vx_numbers.specs.declared.value.PValue.TheVariants.{F16, F32, F64}

-- A float is a NaN where its bits without the sign exceed those of infinity.
abbrev pub is_nan : PValue → Bool
is_nan (F16 bits) = nat_lt 31744 (bits % 2 ^ 15)
is_nan (F32 bits) = nat_lt 2139095040 (bits % 2 ^ 31)
is_nan (F64 bits) = nat_lt 9218868437227405312 (bits % 2 ^ 63)
is_nan n = false

-- The bits of a float, those of the given NaN in place of any NaN.
abbrev pub quiet : ℕ → ℕ → ℕ → ℕ → ℕ
quiet sign infinity nan bits = if nat_lt infinity (bits % sign) then nan else bits

-- A number with the canonical NaN of its width, 7e00, 7fc00000 or 7ff8000000000000, in place of any NaN.
abbrev pub nan_canonical : PValue → PValue
nan_canonical (F16 bits) = F16 (quiet (2 ^ 15) 31744 32256 bits)
nan_canonical (F32 bits) = F32 (quiet (2 ^ 31) 2139095040 2143289344 bits)
nan_canonical (F64 bits) = F64 (quiet (2 ^ 63) 9218868437227405312 9221120237041090560 bits)
nan_canonical n = n
