-- Why a node's table of statistics is not read, and what is read of it.
use Rattle.std.proofs.Common.{◌≡◌, sym, subst}
use Rattle.vx_flat.specs.Value.{Field, Fields, absent, table}
use Rattle.vx_types.specs.Typ.{Typ}
use Rattle.vx_scalars.specs.Stats.{Stats, no_stats}
use Rattle.vx_scalar_wire.specs.StatsShown.{ShowsStats, ShowsStatsIn}
use Rattle.vx_scalar_wire.specs.declared.error.ScalarWireError.{ScalarWireError}
use Rattle.vx_scalar_wire.specs.declared.error.ScalarWireError.TheVariants.{OutOfMemory, BadMessage, TooDeep, MissingKind, KindMismatch, OutOfRange, BadChild, BadScalar, BadPrecision, BadDType, MessageTooLong}
use Rattle.vx_serialized.specs.ReadingSteps.{RefusesStats, stats_refusal}

-- Only allocation failure becomes `OutOfMemory`.
abbrev IsMemory : ScalarWireError → Type 0
IsMemory OutOfMemory = Unit {0}
IsMemory _ = ⊥

memory : (e : ScalarWireError) → e ≡ OutOfMemory → IsMemory e
memory e q = subst (λ (z : ScalarWireError). IsMemory z) (sym q) tt

-- A table is refused where it shows no statistics, or where allocation failed.
refused_by : (e : ScalarWireError) (d : Typ) (f : Field) → ((x : Stats) → ShowsStatsIn d f x → e ≡ OutOfMemory) → RefusesStats (stats_refusal e) d f
refused_by OutOfMemory d f h = tt
refused_by BadMessage d f h = λ x k. memory BadMessage (h x k)
refused_by TooDeep d f h = λ x k. memory TooDeep (h x k)
refused_by MissingKind d f h = λ x k. memory MissingKind (h x k)
refused_by KindMismatch d f h = λ x k. memory KindMismatch (h x k)
refused_by OutOfRange d f h = λ x k. memory OutOfRange (h x k)
refused_by BadChild d f h = λ x k. memory BadChild (h x k)
refused_by BadScalar d f h = λ x k. memory BadScalar (h x k)
refused_by BadPrecision d f h = λ x k. memory BadPrecision (h x k)
refused_by (BadDType r) d f h = λ x k. memory (BadDType r) (h x k)
refused_by MessageTooLong d f h = λ x k. memory MessageTooLong (h x k)

pub refused_stats : (e : ScalarWireError) (d : Typ) (f : Field) (vs : Fields) → f ≡ table vs → ((x : Stats) → ShowsStats d vs x → e ≡ OutOfMemory) → RefusesStats (stats_refusal e) d f
refused_stats e d f vs is h = refused_by e d f (λ x k. h x (subst (λ (g : Field). ShowsStatsIn d g x) is k))

pub shown_stats : (d : Typ) (f : Field) (vs : Fields) (x : Stats) → f ≡ table vs → ShowsStats d vs x → ShowsStatsIn d f x
shown_stats d f vs x is h = subst (λ (g : Field). ShowsStatsIn d g x) (sym is) h

pub shown_none : (d : Typ) (f : Field) (x : Stats) → f ≡ absent → x ≡ no_stats → ShowsStatsIn d f x
shown_none d f x is h = subst (λ (g : Field). ShowsStatsIn d g x) (sym is) h
