-- A set of statistics that fit is written but for allocation failure, or where the message would be too long.
use Rattle.std.proofs.Common.{◌≡◌, ◌∙◌, ◌≤◌, ◌⊎◌, Option, Some, None, refl, sym, subst, inl, inr, arith}
use Rattle.vx_flat.specs.Building.{Built}
use Rattle.vx_proto.specs.Written.{nested}
use Rattle.vx_trees.specs.Rose.{node, end, count}
use Rattle.vx_types.specs.Fits.{Fits, EachFits, FitBy, bare}
use Rattle.vx_types.specs.Typ.{Typ}
use Rattle.vx_types.specs.Value as V
use Rattle.vx_scalars.specs.StatTypes.{stat_type}
use Rattle.vx_scalars.specs.Stats.{Told, Stats, FitsTold, FitStats}
use Rattle.vx_scalars.specs.WrittenStats.{written_sum}
use Rattle.vx_scalars.proofs.LawsStats.{sum_fits, sum_null}
use Rattle.vx_scalars.specs.declared.precision.Precision.TheVariants.{Exact, Inexact, Absent}
use Rattle.vx_scalars.specs.declared.stat.Stat.TheVariants.{Min, Max, Sum}
use Rattle.vx_scalar_wire.specs.ScalarMessage.{value_message}
use Rattle.vx_scalar_wire.specs.Shallow.{IsShallow, AreShallow}
use Rattle.vx_scalar_wire.specs.StatsUnwritten.{RefusesWritingTold, RefusesWritingStats}
use Rattle.vx_scalar_wire.specs.Writing.{RefusesWritingValueBytes}
use Rattle.vx_scalar_wire.specs.declared.error.ScalarWireError.{ScalarWireError}
use Rattle.vx_scalar_wire.specs.declared.error.ScalarWireError.TheVariants.{OutOfMemory, BadMessage, TooDeep, MissingKind, KindMismatch, OutOfRange, BadChild, BadScalar, BadPrecision, BadDType, MessageTooLong}
use Rattle.vx_type_wire.specs.declared.error.TypeWireError.TheVariants.{WireLimit}
use Rattle.vx_scalar_wire.proofs.StatsBack.{IsLeaf, ordered_leaf, sum_leaf, leaf_known, no_parts, no_member, no_variant}

-- ---- values of the types of statistics are shallow, and their messages are flat

end_shallow : (vs : V.Values) → vs ≡ end → AreShallow vs
end_shallow vs e = subst (λ (us : V.Values). AreShallow us) (sym e) tt

leaf_shallow : (v : V.Value) (d : Typ) → IsLeaf d → Fits v d → IsShallow v
leaf_shallow (node V.null vs) d l f = (tt, end_shallow vs f.1)
leaf_shallow (node V.opaque vs) d l f = absurd f
leaf_shallow (node (V.bool b) vs) d l f = (tt, end_shallow vs f.1)
leaf_shallow (node (V.number n) vs) d l f = (tt, end_shallow vs f.1)
leaf_shallow (node (V.decimal x) vs) d l f = (tt, end_shallow vs f.1)
leaf_shallow (node (V.utf8 bs) vs) d l f = (tt, end_shallow vs f.1)
leaf_shallow (node (V.binary bs) vs) d l f = (tt, end_shallow vs f.1)
leaf_shallow (node V.tuple vs) d l f = absurd (no_parts (count vs) (λ e. EachFits vs e) (λ ts. FitBy vs ts) d l f)
leaf_shallow (node (V.union tag) vs) d l f = absurd (no_member tag (λ ts. FitBy vs ts) d l f)
leaf_shallow (node (V.variant e) vs) d l f = absurd (no_variant d l f.0)

-- So they are written.
value_written : (e : ScalarWireError) (v : V.Value) → IsShallow v → nested (value_message v) ≤ 100 → RefusesWritingValueBytes e (IsShallow v) (value_message v) → e ≡ OutOfMemory
value_written OutOfMemory v s n u = refl
value_written TooDeep v s n u = absurd (omega (arith, n, u))
value_written (BadDType WireLimit) v s n u = absurd (u s)
value_written _ v s n u = absurd u

told_written : (e : ScalarWireError) (o : Option Typ) (x : Told) → ((d : Typ) → o ≡ Some d → IsLeaf d) → FitsTold o x → RefusesWritingTold e x → e ≡ OutOfMemory
told_written e (Some d) (Exact v) l f u = value_written e v (leaf_shallow v d (l d refl) f.0) (leaf_known v d (l d refl) f.0).1 u
told_written e (Some d) (Inexact v) l f u = value_written e v (leaf_shallow v d (l d refl) f.0) (leaf_known v d (l d refl) f.0).1 u
told_written e (Some d) Absent l f u = absurd u
told_written e None Absent l f u = absurd u
told_written e None (Exact v) l f u = absurd f
told_written e None (Inexact v) l f u = absurd f

-- The written form of a sum fits where the sum does.
sum_told : (o : Option Typ) (x : Told) → FitsTold o x → FitsTold o (written_sum x)
sum_told (Some d) (Exact v) f = (sum_fits v d f.0, sum_null v ∙ f.1)
sum_told (Some d) (Inexact v) f = tt
sum_told (Some d) Absent f = tt
sum_told None (Exact v) f = absurd f
sum_told None (Inexact v) f = absurd f
sum_told None Absent f = tt

one_of_three : (e : ScalarWireError) (d : Typ) (t : Stats) → FitStats d t → RefusesWritingTold e t.least ⊎ (RefusesWritingTold e t.greatest ⊎ RefusesWritingTold e (written_sum t.total)) → e ≡ OutOfMemory
one_of_three e d t f (inl u) = told_written e (stat_type Min d) t.least (λ k h. ordered_leaf (bare d) k h) (f Min) u
one_of_three e d t f (inr (inl u)) = told_written e (stat_type Max d) t.greatest (λ k h. ordered_leaf (bare d) k h) (f Max) u
one_of_three e d t f (inr (inr u)) = told_written e (stat_type Sum d) (written_sum t.total) (λ k h. sum_leaf d k h) (sum_told (stat_type Sum d) t.total (f Sum)) u

-- Of a set that fits, nothing is refused but for allocation failure, or where the message would be too long.
pub fit_written : (e : ScalarWireError) (d : Typ) (t : Stats) (b : Built) → FitStats d t → RefusesWritingStats e t b → (e ≡ OutOfMemory) ⊎ (e ≡ MessageTooLong)
fit_written OutOfMemory d t b f u = inl refl
fit_written MessageTooLong d t b f u = inr refl
fit_written BadMessage d t b f u = inl (one_of_three BadMessage d t f u)
fit_written TooDeep d t b f u = inl (one_of_three TooDeep d t f u)
fit_written MissingKind d t b f u = inl (one_of_three MissingKind d t f u)
fit_written KindMismatch d t b f u = inl (one_of_three KindMismatch d t f u)
fit_written OutOfRange d t b f u = inl (one_of_three OutOfRange d t f u)
fit_written BadChild d t b f u = inl (one_of_three BadChild d t f u)
fit_written BadScalar d t b f u = inl (one_of_three BadScalar d t f u)
fit_written BadPrecision d t b f u = inl (one_of_three BadPrecision d t f u)
fit_written (BadDType r) d t b f u = inl (one_of_three (BadDType r) d t f u)
