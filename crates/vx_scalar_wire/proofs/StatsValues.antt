-- What the bytes in a field of statistics are read as.
use Rattle.std.specs.Prelude.{IfErr, MatchOption, MatchResult, Option, Result, Ok, Err, option_map}
use Rattle.std.proofs.Common.{◌≡◌, ◌<◌, ◌∙◌, ◌⊎◌, false, ℕ, List, Some, None, refl, sym, ap, subst, inl, inr, true≢false, arith}
use Rattle.vx_flat.specs.declared.schema.FieldKind.{FieldKind}
use Rattle.vx_flat.specs.Entries.{part_at}
use Rattle.vx_flat.specs.Value.{Field, Fields, number, elements}
use Rattle.vx_type_wire.specs.Known.{ExtMeaning, no_readers}
use Rattle.vx_types.specs.Fits.{Fits}
use Rattle.vx_types.specs.Seen.{typ}
use Rattle.vx_types.specs.Typ.{Typ}
use Rattle.vx_types.specs.Value as V
use Rattle.vx_types.specs.Value.{lone, is_null}
use Rattle.vx_types.specs.declared.dtype.DType.{DType}
use Rattle.vx_scalars.specs.Seen.{seen, value_of}
use Rattle.vx_scalars.specs.StatTypes.{stat_type}
use Rattle.vx_scalars.specs.Stats.{Told}
use Rattle.vx_scalars.specs.declared.precision.Precision.TheVariants.{Exact, Inexact, Absent}
use Rattle.vx_scalars.specs.declared.stat.Stat.{Stat}
use Rattle.vx_scalars.specs.declared.stat.Stat.TheVariants.{Min, Max}
use Rattle.vx_scalars.specs.declared.value.ScalarValue.{ScalarValue}
use Rattle.vx_scalars.specs.declared.value.ScalarValue.TheVariants.{Bool, Primitive, Decimal, Utf8, Binary, Tuple, Union, Variant}
use Rattle.vx_scalar_wire.specs.Reading.{ShowsValue}
use Rattle.vx_scalar_wire.specs.RefusingCalls.{RefusesReadingValueBytes}
use Rattle.vx_scalar_wire.specs.StatsSchema.{stats_fields}
use Rattle.vx_scalar_wire.specs.StatsShown.{HoldsStat, TellsNothing, IsToldField, ShowsBound, ShowsStat}
use Rattle.vx_scalar_wire.specs.StatsUnread.{RefusesStatBytes}
use Rattle.vx_scalar_wire.specs.declared.error.ScalarWireError.{ScalarWireError}
use Rattle.vx_scalar_wire.specs.declared.error.ScalarWireError.TheVariants.{OutOfMemory, BadScalar}
use Rattle.vx_scalar_wire.proofs.LawsScalars.{one_shown}
use Rattle.vx_scalar_wire.proofs.StatsRead.{not_both}

-- A value in hand is not null.
not_null : (v : ScalarValue) → is_null (value_of v) ≡ false
not_null (Bool b) = refl
not_null (Primitive n) = refl
not_null (Decimal x) = refl
not_null (Utf8 s) = refl
not_null (Binary bs) = refl
not_null (Tuple vs) = refl
not_null (Union tag v) = refl
not_null (Variant s) = refl

-- ---- what is read

pub value_told : (s : ExtMeaning) (v : ScalarValue) (d : Typ) (bytes : List ℕ) → s ≡ no_readers → ShowsValue s (value_of v) d bytes → Fits (value_of v) d → HoldsStat (Some d) (elements bytes) (value_of v)
value_told s v d bytes e h f = (subst (λ (r : ExtMeaning). ShowsValue r (value_of v) d bytes) e h, (f, not_null v))

-- ---- what is refused

pub bytes_refused : (s : ExtMeaning) (e : ScalarWireError) (d : Typ) (bytes : List ℕ) → s ≡ no_readers → RefusesReadingValueBytes e s d bytes → RefusesStatBytes e d bytes
bytes_refused s BadScalar d bytes is h = inl (subst (λ (r : ExtMeaning). RefusesReadingValueBytes BadScalar r d bytes) is h)
bytes_refused s e d bytes is h = subst (λ (r : ExtMeaning). RefusesReadingValueBytes e r d bytes) is h

-- ---- what is told is not refused

told_shown : (o : Option Typ) (d : Typ) (bytes : List ℕ) → o ≡ Some d → IsToldField o (elements bytes) → (v : V.Value) × ShowsValue no_readers v d bytes
told_shown None d bytes e h = absurd (cc)
told_shown (Some c) d bytes e (inl h) = let same : c ≡ d = cc in (lone V.null, subst (λ (t : Typ). ShowsValue no_readers (lone V.null) t bytes) same h)
told_shown (Some c) d bytes e (inr h) = let same : c ≡ d = cc in (h.0, subst (λ (t : Typ). ShowsValue no_readers h.0 t bytes) same h.1.0)

pub told_read : (s : ExtMeaning) (r : Result (Option ScalarValue) ScalarWireError) (d : Typ) (bytes : List ℕ) → s ≡ no_readers
    → ((v : V.Value) → ShowsValue s v d bytes → MatchResult r (λ x. seen x ≡ v) (λ e. e ≡ OutOfMemory)) → IsToldField (Some d) (elements bytes) → IfErr r (λ e. e ≡ OutOfMemory)
told_read s (Ok x) d bytes is c h = tt
told_read s (Err e) d bytes is c h =
    let q = told_shown (Some d) d bytes refl h in
    c q.0 (subst (λ (r : ExtMeaning). ShowsValue r q.0 d bytes) (sym is) q.1)

pub told_fits : (s : ExtMeaning) (v : ScalarValue) (d : Typ) (bytes : List ℕ) → s ≡ no_readers → ShowsValue s (value_of v) d bytes → (Fits (value_of v) d → ⊥) → IsToldField (Some d) (elements bytes) → ⊥
told_fits s v d bytes is h f (inl k) =
    let e : value_of v ≡ lone V.null = one_shown no_readers d bytes (value_of v) (lone V.null) (subst (λ (r : ExtMeaning). ShowsValue r (value_of v) d bytes) is h) k in
    true≢false (sym (ap (λ (x : V.Value). is_null x) e) ∙ not_null v)
told_fits s v d bytes is h f (inr k) =
    let e : k.0 ≡ value_of v = one_shown no_readers d bytes k.0 (value_of v) k.1.0 (subst (λ (r : ExtMeaning). ShowsValue r (value_of v) d bytes) is h) in
    f (subst (λ (x : V.Value). Fits x d) e k.1.1.0)

-- ---- precisions

-- A precision of a value that is told is 0 or 1.
same_precision : (a b : ℕ) → number a ≡ number b → a ≡ b
same_precision a b h = cc

pub precision_told : (o : Option Typ) (f p : Field) (x : Told) (v : V.Value) (n : ℕ) → ShowsBound o f p x → HoldsStat o f v → p ≡ number n → (n ≡ 0) ⊎ (n ≡ 1)
precision_told o f p (Exact u) v n h k e = inr (same_precision n 1 (sym e ∙ h.1))
precision_told o f p (Inexact u) v n h k e = inl (same_precision n 0 (sym e ∙ h.1))
precision_told o f p Absent v n h k e = absurd (not_both o f v k h)

-- A number of two or more is none of a precision.
pub never_bad : (o : Option Typ) (f p : Field) (x : Told) (v : V.Value) (n : ℕ) (e : ScalarWireError) → ShowsBound o f p x → HoldsStat o f v → p ≡ number n → 1 < n → e ≡ OutOfMemory
never_bad o f p x v n e h k is lt = absurd (elim (precision_told o f p x v n h k is) [ inl z ↦ omega (arith, z, lt) | inr z ↦ omega (arith, z, lt) ])

-- ---- what is known of a field

-- A value was read,
pub read_some : (s : ExtMeaning) (x : Option ScalarValue) (v : ScalarValue) (d : Typ) (bytes : List ℕ) → s ≡ no_readers → x ≡ Some v → ShowsValue s (seen x) d bytes → ShowsValue no_readers (value_of v) d bytes
read_some s x v d bytes is e h =
    subst (λ (y : Option ScalarValue). ShowsValue no_readers (seen y) d bytes) e (subst (λ (r : ExtMeaning). ShowsValue r (seen x) d bytes) is h)

pub some_holds : (y : Option ScalarValue) (v : ScalarValue) (o : Option Typ) (f : Field) → y ≡ Some v → MatchOption y (TellsNothing o f) (λ u. HoldsStat o f (value_of u)) → HoldsStat o f (value_of v)
some_holds y v o f e h = subst (λ (z : Option ScalarValue). MatchOption z (TellsNothing o f) (λ u. HoldsStat o f (value_of u))) e h

-- at the type that arrays have for the statistic,
pub typed_some : (x : Option DType) (own : DType) (o : Option Typ) → x ≡ Some own → option_map typ x ≡ o → Some (typ own) ≡ o
typed_some x own o e h = sym (ap (λ (y : Option DType). option_map typ y) e) ∙ h

-- from the bytes that the field has.
pub told_bytes : (o : Option Typ) (d : Typ) (f : Field) (bytes : List ℕ) → Some d ≡ o → f ≡ elements bytes → IsToldField o f → IsToldField (Some d) (elements bytes)
told_bytes o d f bytes e g h = subst (λ (x : Field). IsToldField (Some d) x) g (subst (λ (p : Option Typ). IsToldField p f) (sym e) h)

-- The least and the greatest value by their fields.
pub least_at : (s : Stat) (ks : List FieldKind) (d : Typ) (vs : Fields) (x : Told) → s ≡ Min → ks ≡ stats_fields → ShowsStat s d vs x → ShowsBound (stat_type s d) (part_at ks vs 0) (part_at ks vs 1) x
least_at s ks d vs x e k h =
    subst (λ (js : List FieldKind). ShowsBound (stat_type s d) (part_at js vs 0) (part_at js vs 1) x) (sym k)
    (subst (λ (r : Stat). ShowsBound (stat_type r d) (part_at stats_fields vs 0) (part_at stats_fields vs 1) x) (sym e) (subst (λ (r : Stat). ShowsStat r d vs x) e h))

pub greatest_at : (s : Stat) (ks : List FieldKind) (d : Typ) (vs : Fields) (x : Told) → s ≡ Max → ks ≡ stats_fields → ShowsStat s d vs x → ShowsBound (stat_type s d) (part_at ks vs 2) (part_at ks vs 3) x
greatest_at s ks d vs x e k h =
    subst (λ (js : List FieldKind). ShowsBound (stat_type s d) (part_at js vs 2) (part_at js vs 3) x) (sym k)
    (subst (λ (r : Stat). ShowsBound (stat_type r d) (part_at stats_fields vs 2) (part_at stats_fields vs 3) x) (sym e) (subst (λ (r : Stat). ShowsStat r d vs x) e h))

-- ---- allocation failure
