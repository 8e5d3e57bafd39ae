-- What a plain value tells of the type whose message it is.
use Rattle.std.proofs.Common.{◌≡◌, ◌∙◌, [], ◌∷◌, ◌<◌, ◌≤◌, ◌+◌, Option, None, Some, refl, ap, sym, subst, arith}
use Rattle.std.proofs.lemmas.Option.{none-some, same_Some}
use Rattle.vx_trees.specs.Walks.{levels}
use Rattle.vx_proto.specs.Form.{HasForm}
use Rattle.vx_proto.specs.Written.{nested}
use Rattle.vx_proto.specs.Value.{Value}
use Rattle.vx_types.specs.Typ.{Typ, IsType}
use Rattle.vx_type_wire.specs.declared.error.TypeWireError.{TypeWireError}
use Rattle.vx_type_wire.specs.declared.error.TypeWireError.TheVariants.{OutOfMemory, BadTable, TableLimit, BadMessage, TooDeep, BadType, UnknownExtension, ExtensionRefused, WireLimit}
use Rattle.vx_type_wire.specs.Answers.{Fails}
use Rattle.vx_type_wire.specs.Known.{ExtMeaning, IsNotKnown}
use Rattle.vx_type_wire.specs.MessageReading.{type_in}
use Rattle.vx_type_wire.specs.TypeMessage.{type_lists, type_message, IsMessageOf, IsNoMessage, RefusesReadingType}
use Rattle.vx_type_wire.proofs.MessageBack.{reads_back}
use Rattle.vx_type_wire.proofs.MessageSound.{type_sound}
use Rattle.vx_type_wire.proofs.OneType.{never}
use Rattle.vx_type_wire.proofs.MessageForm.{type_depth}

-- A message is of one type at most.
pub message-injective : (t u : Typ) → IsType t → IsType u → type_message t ≡ type_message u → t ≡ u
message-injective t u h k e =
    let n = levels t + levels u in
    same_Some t u (sym (reads_back n t h (omega arith)) ∙ ap (type_in n) e ∙ reads_back n u k (omega arith))

-- The type whose message it is, is the one that is read.
pub reads_message : (v : Value) (t : Typ) → levels t ≤ 50 → IsMessageOf v t → type_in 50 v ≡ Some t
reads_message v t le h = ap (type_in 50) h.is ∙ reads_back 50 t h.is_type le

-- A type of whose message at most 100 messages nest has at most 50 levels.
pub shallow_by : (t : Typ) (v : Value) → IsType t → v ≡ type_message t → nested v ≤ 100 → levels t ≤ 50
shallow_by t v h e n = omega (arith, type_depth t h, ap nested e)

-- So a message in which more nest is of no such type.
pub too_deep : (t : Typ) (v : Value) → levels t ≤ 50 → IsMessageOf v t → 100 < nested v → ⊥
too_deep t v le h n = absurd (omega (arith, type_depth t h.is_type, ap nested h.is, le, n))

-- At most 100 messages nest in a value where they do in its slots.
pub never_deep : (v w : Value) → w ≡ v → nested w ≤ 100 → 100 < nested v → ⊥
never_deep v w e n m = absurd (omega (arith, ap nested e, n, m))

-- A value of which nothing is read is no type's.
pub no_message : (v : Value) → nested v ≤ 100 → type_in 50 v ≡ None → IsNoMessage v
no_message v n e t h = none-some t (sym e ∙ reads_message v t (shallow_by t v h.is_type h.is n) h)

default_unread : type_in 50 ([] ∷ []) ≡ None
unfolding type_in
default_unread = refl

-- One message nests in the value of a message without fields.
pub default_flat : (v : Value) → v ≡ [] ∷ [] → nested v ≤ 100
default_flat v e = let flat : nested v ≡ nested ([] ∷ []) = ap nested e in omega (arith, flat)

-- It is no type's.
pub no_default : (v : Value) → v ≡ [] ∷ [] → IsNoMessage v
no_default v e = no_message v (default_flat v e) (ap (type_in 50) e ∙ default_unread)

-- The type that is read is shown.
pub shows_message : (v w : Value) (t : Typ) → HasForm type_lists 0 v → w ≡ v → type_in 50 w ≡ Some t → IsType t → IsMessageOf v t
shows_message v w t f same_value e h = record { is_type = h; is = sym (type_sound 50 v t f (ap (type_in 50) (sym same_value) ∙ e)) }

pub only_memory : (e : TypeWireError) (x : Option Typ) (t : Typ) → x ≡ Some t → Fails e x → e ≡ OutOfMemory
only_memory OutOfMemory x t p h = refl
only_memory BadTable x t p h = absurd h
only_memory TableLimit x t p h = absurd h
only_memory BadMessage x t p h = absurd h
only_memory TooDeep x t p h = absurd h
only_memory BadType x t p h = absurd (cc)
only_memory UnknownExtension x t p h = absurd h
only_memory ExtensionRefused x t p h = absurd h
only_memory WireLimit x t p h = absurd h

-- Why nothing is read of a value.
pub unread_value : (e : TypeWireError) (s : ExtMeaning) (v w : Value) → w ≡ v → nested w ≤ 100 → Fails e (type_in 50 w) → RefusesReadingType e s v
unread_value OutOfMemory s v w q n h = tt
unread_value BadTable s v w q n h = absurd h
unread_value TableLimit s v w q n h = absurd h
unread_value BadMessage s v w q n h = absurd h
unread_value TooDeep s v w q n h = absurd h
unread_value BadType s v w q n h = no_message v (subst (λ x. nested x ≤ 100) q n) (ap (type_in 50) (sym q) ∙ h)
unread_value UnknownExtension s v w q n h = absurd h
unread_value ExtensionRefused s v w q n h = absurd h
unread_value WireLimit s v w q n h = absurd h

-- Why a type that is shown is not known.
pub unknown_value : (e : TypeWireError) (s : ExtMeaning) (v : Value) (t : Typ) → IsMessageOf v t → IsNotKnown e s t → RefusesReadingType e s v
unknown_value OutOfMemory s v t m h = tt
unknown_value BadTable s v t m h = never BadTable s t (λ id bs u n. n) h
unknown_value TableLimit s v t m h = never TableLimit s t (λ id bs u n. n) h
unknown_value BadMessage s v t m h = never BadMessage s t (λ id bs u n. n) h
unknown_value TooDeep s v t m h = absurd (never TooDeep s t (λ id bs u n. n) h)
unknown_value BadType s v t m h = absurd (never BadType s t (λ id bs u n. n) h)
unknown_value UnknownExtension s v t m h = (t, (m, h))
unknown_value ExtensionRefused s v t m h = (t, (m, h))
unknown_value WireLimit s v t m h = never WireLimit s t (λ id bs u n. n) h

-- A message is of the type that is read of it, and of no other.
pub the_type : (v w : Value) (t u : Typ) → w ≡ v → type_in 50 w ≡ Some t → levels u ≤ 50 → IsMessageOf v u → t ≡ u
the_type v w t u q e le m = same_Some t u (sym e ∙ ap (type_in 50) q ∙ reads_message v u le m)
