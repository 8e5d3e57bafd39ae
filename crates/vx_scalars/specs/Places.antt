-- The entries of a set by index.
use Rattle.std.specs.Prelude.{ℕ, zero, suc, ◌≡◌, ◌==◌, Bool, true, false, cond, List, [], ◌∷◌}
use denote.Ref.{Bor}
use Rattle.vx_scalars.specs.StatTypes.{stat_index}
use Rattle.vx_scalars.specs.Stats.{Told, Entry, told_in}
use Rattle.vx_scalars.specs.declared.precision.Precision.{Precision}
use Rattle.vx_scalars.specs.declared.precision.Precision.TheVariants.{Exact, Inexact, Absent}
use Rattle.vx_scalars.specs.declared.stat.Stat.{Stat}

-- The first entry of the statistic is at this index.
abbrev pub IsPlace : Stat → ℕ → List Entry → Type 0
IsPlace s i [] = ⊥
IsPlace s zero (x ∷ xs) = (stat_index s == stat_index x.0) ≡ true
IsPlace s (suc i) (x ∷ xs) = ((stat_index s == stat_index x.0) ≡ false) × IsPlace s i xs

-- Whether it is Absent.
abbrev pub absence : {A : Type 0} → Precision A → Bool
absence (Exact v) = false
absence (Inexact v) = false
absence Absent = true

-- A precision of borrowed values, as one of the values.
abbrev pub borrowed : {A : Type 0} → Precision (Bor A) → Precision A
borrowed (Exact v) = Exact v.now
borrowed (Inexact v) = Inexact v.now
borrowed Absent = Absent

-- The function with one statistic changed.
abbrev pub changed : Stat → Told → (Stat → Told) → Stat → Told
changed s x f r = cond (stat_index r == stat_index s) x (f r)

-- The entries fs are those of es with one statistic changed.
abbrev pub Changes : Stat → Told → List Entry → List Entry → Type 0
Changes s x es fs = (r : Stat) → told_in r fs ≡ changed s x (λ q. told_in q es) r
