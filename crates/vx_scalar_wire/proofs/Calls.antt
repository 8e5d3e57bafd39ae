-- What the calls that read bytes, and scalars of a type, answer.
use Rattle.std.specs.Prelude.{IfErr, MatchResult, Option, Result, Ok, Err}
use Rattle.std.proofs.Common.{◌≡◌, ◌∙◌, ◌<◌, ◌≤◌, ◌⊎◌, ℕ, List, [], ◌∷◌, refl, sym, ap, subst, inl, inr, arith}
use Rattle.vx_proto.specs.Reads.{Cause, Reads}
use Rattle.vx_proto.specs.Value.{Value, one_message}
use Rattle.vx_proto.specs.Written.{nested}
use Rattle.vx_proto.specs.declared.error.ProtoError.{ProtoError}
use Rattle.vx_proto.specs.declared.error.ProtoError.TheVariants as proto
use Rattle.vx_proto.proofs.LawsOfMessages.{reads_one}
use Rattle.vx_type_wire.specs.Known.{ExtMeaning}
use Rattle.vx_types.specs.Fits.{Fits}
use Rattle.vx_types.specs.Typ.{Typ}
use Rattle.vx_types.specs.Value as V
use Rattle.vx_scalars.specs.Seen.{seen}
use Rattle.vx_types.specs.declared.error.TypeError.{TypeError}
use Rattle.vx_types.specs.declared.error.TypeError.TheVariants as type_error
use Rattle.vx_scalars.specs.Told.{Typed}
use Rattle.vx_scalars.specs.declared.value.ScalarValue.{ScalarValue}
use Rattle.vx_scalar_wire.specs.Reading.{ReadsValue, ShowsValue}
use Rattle.vx_scalar_wire.specs.Refusing.{RefusesReadingScalar, RefusesReadingValue}
use Rattle.vx_scalar_wire.specs.RefusingCalls.{RefusesReadingScalarAt, RefusesReadingScalarMessage, RefusesReadingValueBytes}
use Rattle.vx_scalar_wire.specs.ScalarMessage.{scalar_lists}
use Rattle.vx_scalar_wire.specs.Writing.{refusal_of_proto, refusal_of_scalar}
use Rattle.vx_scalar_wire.specs.declared.error.ScalarWireError.{ScalarWireError}
use Rattle.vx_scalar_wire.specs.declared.error.ScalarWireError.TheVariants.{OutOfMemory, TooDeep, BadScalar}

-- ---- depth

-- At most 100 messages nest in a value where they do in its slots.
pub never_deep : (v w : Value) → w ≡ v → nested w ≤ 100 → 100 < nested v → ⊥
never_deep v w e n m = absurd (omega (arith, ap nested e, n, m))

-- ---- bytes

-- Bytes that are no message are refused so,
proto_caused : (p : ProtoError) (s : ExtMeaning) (d : Typ) (bytes : List ℕ) → (p ≡ proto.OutOfMemory) ⊎ Cause scalar_lists 100 p 15 bytes → RefusesReadingValueBytes (refusal_of_proto p) s d bytes
proto_caused proto.OutOfMemory s d bytes h = tt
proto_caused proto.BadMessage s d bytes (inl h) = absurd (cc)
proto_caused proto.BadMessage s d bytes (inr h) = inl (proto.BadMessage, refl, h)
proto_caused proto.TooDeep s d bytes (inl h) = absurd (cc)
proto_caused proto.TooDeep s d bytes (inr h) = inl (proto.TooDeep, refl, h)
proto_caused proto.OutOfRange s d bytes (inl h) = absurd (cc)
proto_caused proto.OutOfRange s d bytes (inr h) = inl (proto.OutOfRange, refl, h)

pub proto_refused : (p : ProtoError) (e : ScalarWireError) (s : ExtMeaning) (d : Typ) (bytes : List ℕ) → e ≡ refusal_of_proto p → (p ≡ proto.OutOfMemory) ⊎ Cause scalar_lists 100 p 15 bytes
    → RefusesReadingValueBytes e s d bytes
proto_refused p e s d bytes is h = subst (λ (x : ScalarWireError). RefusesReadingValueBytes x s d bytes) (sym is) (proto_caused p s d bytes h)

-- and want memory where they show a value.
pub proto_memory : (p : ProtoError) (e : ScalarWireError) (s : ExtMeaning) (v : V.Value) (d : Typ) (bytes : List ℕ) → e ≡ refusal_of_proto p → ((m : Value) → Reads scalar_lists 15 bytes m → p ≡ proto.OutOfMemory)
    → ShowsValue s v d bytes → e ≡ OutOfMemory
proto_memory p e s v d bytes is h r = is ∙ ap (λ (x : ProtoError). refusal_of_proto x) (h r.0 r.1)

message_caused : (e : ScalarWireError) (s : ExtMeaning) (d : Typ) (bytes : List ℕ) (m : Value) → Reads scalar_lists 15 bytes m → RefusesReadingValue e s 100 d m → RefusesReadingValueBytes e s d bytes
message_caused OutOfMemory s d bytes m r h = tt
message_caused _ s d bytes m r h = inr (m, r, h)

-- Bytes whose message is refused are refused,
pub message_refused : (r : Result (Option ScalarValue) ScalarWireError) (s : ExtMeaning) (d : Typ) (bytes : List ℕ) (m : Value) → Reads scalar_lists 15 bytes m → IfErr r (λ e. RefusesReadingValue e s 100 d m)
    → IfErr r (λ e. RefusesReadingValueBytes e s d bytes)
message_refused (Ok x) s d bytes m q h = tt
message_refused (Err e) s d bytes m q h = message_caused e s d bytes m q h

-- and what they show is given, allocation failure aside.
pub bytes_complete : (r : Result (Option ScalarValue) ScalarWireError) (s : ExtMeaning) (v : V.Value) (d : Typ) (bytes : List ℕ) (m : Value) → Reads scalar_lists 15 bytes m → nested m ≤ 100
    → ((u : V.Value) → nested m ≤ 100 → ReadsValue s u d m → MatchResult r (λ x. seen x ≡ u) (λ e. e ≡ OutOfMemory)) → ShowsValue s v d bytes → MatchResult r (λ x. seen x ≡ v) (λ e. e ≡ OutOfMemory)
bytes_complete r s v d bytes m q n h k =
    let same : k.0 ≡ m = reads_one scalar_lists 15 bytes k.0 m k.1 q in
    h v n (subst (λ (x : Value). ReadsValue s v d x) same k.2)

pub ruleset bytes_read = (proto_refused, proto_memory, message_refused, bytes_complete)

-- ---- scalars

deep_scalar : (l t w : Value) → l ≡ one_message 1 t ∷ one_message 2 w ∷ [] → 100 < nested w → 100 < nested l
deep_scalar l t w e n = let whole : nested l ≡ nested (one_message 1 t ∷ one_message 2 w ∷ []) = ap nested e in omega (arith, whole, n)

scalar_caused : (e : ScalarWireError) (s : ExtMeaning) (l : Value) → RefusesReadingScalar e s 100 l → RefusesReadingScalarMessage e s l
scalar_caused OutOfMemory s l h = tt
scalar_caused TooDeep s l (inl h) = absurd h
scalar_caused TooDeep s l (inr h) = deep_scalar l h.0 h.1 h.3 h.5
scalar_caused _ s l h = h

-- A scalar's message that is refused is refused as a whole.
pub scalar_message : (r : Result Typed ScalarWireError) (s : ExtMeaning) (l : Value) → IfErr r (λ e. RefusesReadingScalar e s 100 l) → IfErr r (λ e. RefusesReadingScalarMessage e s l)
scalar_message (Ok x) s l h = tt
scalar_message (Err e) s l h = scalar_caused e s l h

-- ---- scalars of a type

-- What is refused as a value is refused as a scalar,
pub value_refused_at : (e : ScalarWireError) (s : ExtMeaning) (d : Typ) (m : Value) → RefusesReadingValue e s 100 d m → RefusesReadingScalarAt e s d m
value_refused_at BadScalar s d m h = inl h
value_refused_at _ s d m h = h

-- and so is what does not fit.
pub unfit_at : (x : TypeError) (e : ScalarWireError) (s : ExtMeaning) (v : V.Value) (d f : Typ) (m : Value) → e ≡ refusal_of_scalar x → (x ≡ type_error.BadScalar) × (Fits v f → ⊥) → f ≡ d → ReadsValue s v d m
    → RefusesReadingScalarAt e s d m
unfit_at x e s v d f m is h same r =
    subst (λ (y : ScalarWireError). RefusesReadingScalarAt y s d m) (sym (is ∙ ap (λ (y : TypeError). refusal_of_scalar y) h.0))
    (inr (v, r, subst (λ (t : Typ). Fits v t → ⊥) same h.1))

pub never_unfit : (x : TypeError) (e : ScalarWireError) (u v : V.Value) (d f : Typ) → (x ≡ type_error.BadScalar) × (Fits u f → ⊥) → f ≡ d → u ≡ v → Fits v d → e ≡ OutOfMemory
never_unfit x e u v d f h same is k = absurd (h.1 (subst (λ (t : Typ). Fits u t) (sym same) (subst (λ (y : V.Value). Fits y d) (sym is) k)))

pub ruleset scalars_read = (value_refused_at, unfit_at, never_unfit)
