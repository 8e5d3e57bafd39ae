-- How deep messages nest: in values that have their form, and in bytes that are refused for it.
use Rattle.std.proofs.Common.{◌≡◌, ◌≤◌, ℕ, zero, suc, List, [], ◌∷◌, refl, sym, subst, inl, inr, arith}
use Rattle.std.specs.Prelude.{◌↔◌}
use Rattle.vx_proto.specs.declared.error.ProtoError.TheVariants.{BadMessage, TooDeep, OutOfRange}
use Rattle.vx_proto.specs.declared.schema.ScalarKind.{ScalarKind}
use Rattle.vx_proto.specs.declared.schema.Kind.{Kind}
use Rattle.vx_proto.specs.declared.schema.Kind.TheVariants.{Scalar, Message}
use Rattle.vx_proto.specs.declared.schema.ScalarKind.TheVariants.{Uint32, Uint64, Int32, Sint64, Flag, Enum, Fixed32, Fixed64, String, Bytes}
use Rattle.vx_proto.specs.declared.schema.Member.{Member}
use Rattle.vx_proto.specs.Schema.{Slot, Schema, list_at, members_of}
use Rattle.vx_proto.specs.Value.{Content, number, octets, Entry, Value, entries_of, slots_of}
use Rattle.vx_proto.specs.Reads.{PartCause, IsWithin, SomeKnown, Cause, NestsOver}
use Rattle.vx_proto.specs.Wire.{Part, Field, cut}
use Rattle.vx_proto.specs.Form.{FormScalar, FormContent, FormEntries, FormSlots, FormWithin}
use Rattle.vx_proto.specs.Written.{content_depth, entries_depth, slots_depth, nested}

flat_number : (m n : ℕ) (e : Content) → e ≡ number n → content_depth e ≤ m
flat_number m n e is = subst (λ d. content_depth d ≤ m) (sym is) (omega arith)

flat_octets : (m : ℕ) (s : List ℕ) (e : Content) → e ≡ octets s → content_depth e ≤ m
flat_octets m s e is = subst (λ d. content_depth d ≤ m) (sym is) (omega arith)

scalar_nests : (m : ℕ) (k : ScalarKind) (e : Content) → FormScalar k e → content_depth e ≤ m
scalar_nests m Uint32 e f = flat_number m f.0 e f.1
scalar_nests m Uint64 e f = flat_number m f.0 e f.1
scalar_nests m Int32 e f = flat_number m f.0 e f.1
scalar_nests m Sint64 e f = flat_number m f.0 e f.1
scalar_nests m Flag e f = flat_number m f.0 e f.1
scalar_nests m (Enum codes) e f = flat_number m f.0 e f.1
scalar_nests m Fixed32 e f = flat_number m f.0 e f.1
scalar_nests m Fixed64 e f = flat_number m f.0 e f.1
scalar_nests m String e f = flat_octets m f.0 e f.1
scalar_nests m Bytes e f = flat_octets m f.0 e f.1

element_nests : (F : ℕ → Value → Type 0) (m : ℕ) (k : Kind) (e : Content) → ((p : ℕ) (v : Value) → F p v → nested v ≤ m) → FormContent F k e → content_depth e ≤ m
element_nests F m (Scalar k) e h f = scalar_nests m k e f
element_nests F m (Message p) e h f = subst (λ d. content_depth d ≤ m) (sym f.1) (h p f.0 f.2)

entries_nest : (F : ℕ → Value → Type 0) (m : ℕ) (members : List Member) (es : List Entry) → ((p : ℕ) (v : Value) → F p v → nested v ≤ m) → FormEntries F members es → entries_depth (entries_of es) ≤ m
entries_nest F m members [] h f = omega arith
entries_nest F m members (x ∷ xs) h f = omega (arith, element_nests F m f.0.0 x.1 h f.0.2, entries_nest F m members xs h f.1)

slots_nest : (F : ℕ → Value → Type 0) (m : ℕ) (ss : List Slot) (v : Value) → ((p : ℕ) (w : Value) → F p w → nested w ≤ m) → FormSlots F ss v → slots_depth (slots_of v) ≤ m
slots_nest F m [] v h f = subst (λ w. slots_depth (slots_of w) ≤ m) (sym f) (omega arith)
slots_nest F m (s ∷ ss) v h f =
    let first = entries_nest F m (members_of s) f.0 h f.4 in
    let rest = slots_nest F m ss f.1 h f.5 in
    let both : slots_depth (slots_of (f.0 ∷ f.1)) ≤ m = omega (arith, first, rest) in
    subst (λ w. slots_depth (slots_of w) ≤ m) (sym f.2) both

pub form_nests : (schema : Schema) (left place : ℕ) (v : Value) → FormWithin schema left place v → nested v ≤ left
unfolding FormWithin
form_nests schema zero place v f = absurd f
form_nests schema (suc left) place v f = omega (arith, slots_nest (FormWithin schema left) left (list_at schema place) v (λ p w x. form_nests schema left p w x) f)

-- ---- in bytes

not_bad : TooDeep ≡ BadMessage → ⊥
not_bad e = absurd cc

not_out : TooDeep ≡ OutOfRange → ⊥
not_out e = absurd cc

within_too : (C N : ℕ → List ℕ → Type 0) (k : Kind) (p : Part) → ((m : ℕ) (s : List ℕ) → C m s → N m s) → IsWithin C k p → IsWithin N k p
within_too C N (Scalar k) p h w = w
within_too C N (Message m) p h w = (w.0, w.1, h m w.0 w.2)

part_deep : (C : ℕ → List ℕ → Type 0) (k : Kind) (p : Part) → PartCause C TooDeep k p → IsWithin C k p
part_deep C k p (inl w) = absurd (not_bad w.0)
part_deep C k p (inr (inl w)) = absurd (not_bad w.0)
part_deep C k p (inr (inr (inl w))) = absurd (not_out w.0)
part_deep C k p (inr (inr (inr w))) = w

known_too : (P Q : Kind → Part → Type 0) (list : List Slot) (fs : List Field) → ((k : Kind) (p : Part) → P k p → Q k p) → SomeKnown P list fs → SomeKnown Q list fs
known_too P Q list [] h w = w
known_too P Q list (f ∷ fs) h (inl w) = inl (w.0, w.1, h w.0 f.part w.2)
known_too P Q list (f ∷ fs) h (inr w) = inr (known_too P Q list fs h w)

pub deep_nests : (schema : Schema) (left place : ℕ) (bytes : List ℕ) → Cause schema left TooDeep place bytes → NestsOver schema left place bytes
unfolding Cause NestsOver
deep_nests schema zero place bytes c = tt
deep_nests schema (suc left) place bytes (inl w) =
    known_too (PartCause (Cause schema left TooDeep) TooDeep) (IsWithin (NestsOver schema left)) (list_at schema place) (cut bytes).0
    (λ k p c. within_too (Cause schema left TooDeep) (NestsOver schema left) k p (λ m s x. deep_nests schema left m s x) (part_deep (Cause schema left TooDeep) k p c)) w
deep_nests schema (suc left) place bytes (inr (inl w)) = absurd (not_bad w.0)
deep_nests schema (suc left) place bytes (inr (inr w)) = absurd (not_bad w.0)

pub nests_deep : (schema : Schema) (left place : ℕ) (bytes : List ℕ) → NestsOver schema left place bytes → Cause schema left TooDeep place bytes
unfolding Cause NestsOver
nests_deep schema zero place bytes n = refl
nests_deep schema (suc left) place bytes n =
    inl (known_too (IsWithin (NestsOver schema left)) (PartCause (Cause schema left TooDeep) TooDeep) (list_at schema place) (cut bytes).0
    (λ k p c. inr (inr (inr (within_too (NestsOver schema left) (Cause schema left TooDeep) k p (λ m s x. nests_deep schema left m s x) c)))) n)

-- Bytes are refused as too deep for the one reason that over 100 messages nest in them.
pub too_deep : (schema : Schema) (place : ℕ) (bytes : List ℕ) → Cause schema 100 TooDeep place bytes ↔ NestsOver schema 100 place bytes
too_deep schema place bytes = (deep_nests schema 100 place bytes, nests_deep schema 100 place bytes)
