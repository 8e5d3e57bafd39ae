-- What the result of a reader says, in terms of the bytes.
use Rattle.std.proofs.Common.{◌≡◌, ◌≤◌, ◌<◌, ◌^◌, ◌⊎◌, inl, inr, ℕ, List, [], ◌∷◌, length, arith, Result, Ok, Err, refl, sym, subst}
use Rattle.std.specs.Prelude.{IsTrue, IfOk, IfErr, OnOk, IsOk, IsErrOf, IsOkUnless, MatchResult}
use Rattle.vx_proto.specs.declared.error.ProtoError.{ProtoError}
use Rattle.vx_proto.specs.declared.error.ProtoError.TheVariants as errors
use Rattle.std.specs.Global.{Vec}
use Rattle.vx_proto.specs.declared.element.Element.{Element}
use Rattle.vx_proto.specs.Schema.{Slot, plain, optional, oneof, repeated, Schema, list_at}
use Rattle.vx_proto.specs.Value.{Value, value_view}
use Rattle.vx_proto.specs.Reads.{ReadsWithin, Reads, Cause, NestsOver, Keeps, ShowsSlots, default_of, defaults, default_value}
use Rattle.vx_proto.specs.Reading.{Fails, Gives, decoded}
use Rattle.vx_proto.specs.Form.{HasForm}
use Rattle.vx_proto.specs.Lawful.{is_lawful}
use Rattle.vx_proto.proofs.Judged.{decoded_sound, decoded_again}
use Rattle.vx_proto.proofs.Causes.{decoded_cause, reads_excludes}
use Rattle.vx_trees.specs.Bytes.{AreBytes}
use Rattle.vx_proto.proofs.Formed.{reads_form}
use Rattle.vx_proto.proofs.Nests.{form_nests, deep_nests, nests_deep}
use Rattle.vx_proto.proofs.LawsOfForms.{form_within}
use Rattle.vx_proto.specs.Written.{written, nested}
use Rattle.vx_proto.proofs.Again.{written_reads}
use Rattle.vx_proto.proofs.LawfulTest.{lawful_by}

-- What follows from an Ok value holds of every Ok result.
pub where_ok : {X E : Type 0} (r : Result X E) (P Q : X → Type 0) → IfOk r P → ((x : X) → P x → Q x) → IfOk r Q
where_ok (Ok x) P Q h more = more x h
where_ok (Err e) P Q h more = tt

-- A result with one refusal alone.
pub ok_unless : {X E : Type 0} (r : Result X E) (only : E) (P Q : X → Type 0) → IfOk r P → IsOkUnless r only → ((x : X) → P x → Q x) → MatchResult r Q (λ e. e ≡ only)
ok_unless (Ok x) only P Q h err more = more x h
ok_unless (Err e) only P Q h err more = err

pub caused_unless : {X E : Type 0} (r : Result X E) (only : E) (P : E → Type 0) → IsOkUnless r only → IfErr r (λ e. (e ≡ only) ⊎ P e)
caused_unless (Ok x) only P err = tt
caused_unless (Err e) only P err = inl err

pub fails_caused : (err : ProtoError) (schema : Schema) (place : ℕ) (bytes : List ℕ) → Fails err (decoded schema 100 place bytes) → (err ≡ errors.OutOfMemory) ⊎ Cause schema 100 err place bytes
fails_caused errors.OutOfMemory schema place bytes h = inl refl
fails_caused errors.BadMessage schema place bytes h = inr (decoded_cause schema 100 place bytes errors.BadMessage h)
fails_caused errors.TooDeep schema place bytes h = inr (decoded_cause schema 100 place bytes errors.TooDeep h)
fails_caused errors.OutOfRange schema place bytes h = inr (decoded_cause schema 100 place bytes errors.OutOfRange h)

pub same_ok : (x : Result Value ProtoError) (v w : Value) → x ≡ Ok v → x ≡ Ok w → v ≡ w
same_ok x v w a b = cc

clash : (x : Result Value ProtoError) (v : Value) (e : ProtoError) (P : Type 0) → x ≡ Ok v → x ≡ Err e → P
clash x v e P a b = absurd cc

pub reads_given : (schema : Schema) (place : ℕ) (bytes : List ℕ) (v : Value) → Reads schema place bytes v → decoded schema 100 place bytes ≡ Ok v
unfolding Reads
reads_given schema place bytes v r = decoded_again schema 100 place bytes v r

pub fails_only : (err : ProtoError) (schema : Schema) (place : ℕ) (bytes : List ℕ) (v : Value) → Fails err (decoded schema 100 place bytes) → Reads schema place bytes v → err ≡ errors.OutOfMemory
fails_only errors.OutOfMemory schema place bytes v h r = refl
fails_only errors.BadMessage schema place bytes v h r = clash (decoded schema 100 place bytes) v errors.BadMessage _ (reads_given schema place bytes v r) h
fails_only errors.TooDeep schema place bytes v h r = clash (decoded schema 100 place bytes) v errors.TooDeep _ (reads_given schema place bytes v r) h
fails_only errors.OutOfRange schema place bytes v h r = clash (decoded schema 100 place bytes) v errors.OutOfRange _ (reads_given schema place bytes v r) h

pub is_read : (schema : Schema) (place : ℕ) (bytes : List ℕ) (v : Value) → decoded schema 100 place bytes ≡ Ok v → Reads schema place bytes v
unfolding Reads
is_read schema place bytes v e = decoded_sound schema 100 place bytes v e

pub read_uncaused : (schema : Schema) (place : ℕ) (bytes : List ℕ) (v : Value) (e : ProtoError) → Reads schema place bytes v → Cause schema 100 e place bytes → ⊥
unfolding Reads
read_uncaused schema place bytes v e r c = reads_excludes schema 100 place bytes v e r c

-- Bytes are read as one value at most.
pub reads_one : (schema : Schema) (place : ℕ) (bytes : List ℕ) (v w : Value) → Reads schema place bytes v → Reads schema place bytes w → v ≡ w
reads_one schema place bytes v w a b = same_ok (decoded schema 100 place bytes) v w (reads_given schema place bytes v a) (reads_given schema place bytes w b)

-- What is read has the form of its schema.
pub read_formed : (schema : Schema) (place : ℕ) (bytes : List ℕ) (v : Value) → IsTrue (is_lawful schema) → AreBytes bytes → Reads schema place bytes v → HasForm schema place v
unfolding Reads HasForm
read_formed schema place bytes v l b r = (100, reads_form schema 100 place bytes v (lawful_by schema l) b r)

-- What is written of a value of the schema that nests within the limit shows the value.
pub written_shown : (schema : Schema) (place : ℕ) (v : Value) → IsTrue (is_lawful schema) → HasForm schema place v → nested v ≤ 100 → length (written schema place v) < 2 ^ 64 → Reads schema place (written schema place v) v
unfolding Reads HasForm
written_shown schema place v l f le lt = written_reads schema 100 place v (lawful_by schema l) (form_within schema f.0 100 place v f.1 le) lt

-- No bytes show the value of a message without fields.
default_kept : (s : Slot) → Keeps s [] (default_of s)
default_kept (plain n k) = refl
default_kept (optional n k) = refl
default_kept (oneof ms) = (refl, omega arith)
default_kept (repeated n k) = refl

defaults_shown : (list : List Slot) → ShowsSlots list [] (defaults list)
defaults_shown [] = refl
defaults_shown (s ∷ ss) = (default_of s, defaults ss, refl, default_kept s, defaults_shown ss)

pub nothing_shown : (schema : Schema) (place : ℕ) → Reads schema place [] (default_value schema place)
unfolding Reads ReadsWithin
nothing_shown schema place = record { fields = []; entries = []; spelled = refl; each = refl; kept = defaults_shown (list_at schema place) }

pub default_formed : (schema : Schema) (place : ℕ) → IsTrue (is_lawful schema) → HasForm schema place (default_value schema place)
default_formed schema place l = read_formed schema place [] (default_value schema place) l tt (nothing_shown schema place)

-- At most 100 messages nest in what is read.
pub read_nests : (schema : Schema) (place : ℕ) (bytes : List ℕ) (v : Value) → IsTrue (is_lawful schema) → AreBytes bytes → Reads schema place bytes v → nested v ≤ 100
unfolding Reads
read_nests schema place bytes v l b r = form_nests schema 100 place v (reads_form schema 100 place bytes v (lawful_by schema l) b r)

-- No bytes are read as the default.
pub default_given : (schema : Schema) (place : ℕ) (r : Result (Vec (Vec (ℕ × Element))) ProtoError) → Gives (λ v. value_view v.items) r (decoded schema 100 place []) → IfOk r (λ v. value_view v.items ≡ default_value schema place)
default_given schema place (Ok v) h = same_ok (decoded schema 100 place []) (value_view v.items) (default_value schema place) h (reads_given schema place [] (default_value schema place) (nothing_shown schema place))
default_given schema place (Err e) h = tt

pub default_fails : (schema : Schema) (place : ℕ) (r : Result (Vec (Vec (ℕ × Element))) ProtoError) → Gives (λ v. value_view v.items) r (decoded schema 100 place []) → IsOkUnless r errors.OutOfMemory
default_fails schema place (Ok v) h = tt
default_fails schema place (Err e) h = fails_only e schema place [] (default_value schema place) h (nothing_shown schema place)

-- What is written of a value that has the form is read as that value.
pub encoded_reads : (schema : Schema) (place : ℕ) (v : Value) (r : Result (List ℕ) ProtoError) → IsTrue (is_lawful schema) → OnOk r (HasForm schema place v)
    → IfOk r (λ bytes. bytes ≡ written schema place v) → IfOk r (λ bytes. length bytes < 2 ^ 64) → (IsOk r → nested v ≤ 100) → IfOk r (λ bytes. Reads schema place bytes v)
encoded_reads schema place v (Ok bytes) l f exact short nests =
    subst (λ (b : List ℕ). Reads schema place b v) (sym exact) (written_shown schema place v l f (nests refl) (subst (λ (b : List ℕ). length b < 2 ^ 64) exact short))
encoded_reads schema place v (Err e) l f exact short nests = tt

-- A refusal for depth comes from messages that nest in the bytes.
pub refused_deep : {X : Type 0} (schema : Schema) (place : ℕ) (bytes : List ℕ) (r : Result X ProtoError) → IfErr r (λ e. (e ≡ errors.OutOfMemory) ⊎ Cause schema 100 e place bytes) → IsErrOf r errors.TooDeep → NestsOver schema 100 place bytes
refused_deep schema place bytes (Ok x) h e = absurd cc
refused_deep schema place bytes (Err f) (inl h) e = absurd cc
refused_deep schema place bytes (Err f) (inr h) e = let same : f ≡ errors.TooDeep = cc in deep_nests schema 100 place bytes (subst (λ (x : ProtoError). Cause schema 100 x place bytes) same h)

-- What is read does not nest too deep.
pub read_shallow : (schema : Schema) (place : ℕ) (bytes : List ℕ) (v : Value) → Reads schema place bytes v → NestsOver schema 100 place bytes → ⊥
read_shallow schema place bytes v r n = read_uncaused schema place bytes v errors.TooDeep r (nests_deep schema 100 place bytes n)
