-- What is read has the form of its schema.
use Rattle.std.proofs.Common.{◌≡◌, ℕ, zero, suc, ◌^◌, ◌<◌, ◌≤◌, Bool, true, false, not, cond, eqb, List, [], ◌∷◌, ◌++◌, length, get_or, Some, refl, sym, ap, subst, ◌∙◌, arith, inl, inr}
use Rattle.std.specs.Prelude.{filter}
use Rattle.std.specs.Int.{w32, w64, from_le_bytes}
use Rattle.std.proofs.lemmas.Str.{IsUtf8-nil}
use Rattle.std.proofs.lemmas.Bool.{eq-eqb}
use Rattle.vx_proto.specs.declared.schema.Kind.{Kind}
use Rattle.vx_proto.specs.declared.schema.Kind.TheVariants.{Scalar, Message}
use Rattle.vx_proto.specs.declared.schema.ScalarKind.{ScalarKind}
use Rattle.vx_proto.specs.declared.schema.ScalarKind.TheVariants.{Uint32, Uint64, Int32, Sint64, Flag, Enum, Fixed32, Fixed64, String, Bytes}
use Rattle.vx_proto.specs.declared.schema.Member.{Member}
use Rattle.vx_proto.specs.Schema.{Slot, plain, optional, oneof, repeated, Schema, members_of, list_at, kind_in, has, kind_of}
use Rattle.vx_trees.specs.Bytes.{AreBytes}
use Rattle.vx_proto.specs.Wire.{SpellsNumber, Part, i64, len, i32, Field, SpellsPart, SpellsMessage}
use Rattle.vx_proto.specs.Value.{Content, Entry, Value}
use Rattle.vx_proto.specs.Reads.{default_in, default_of, last_of, ShowsScalar, ShowsContent, ShowsEntries, ShowsSlots, Keeps, ReadsWithin}
use Rattle.vx_proto.specs.Form.{FormScalar, FormContent, FormEntries, FormCount, FormSlots, FormWithin}
use Rattle.vx_proto.proofs.LawfulSlots.{HasCodes, IsLawfulList}

at_index : (bs : List ℕ) → AreBytes bs → (i : ℕ) → get_or bs i 0 < 256
at_index [] h i = omega arith
at_index (b ∷ bs) h zero = h.0
at_index (b ∷ bs) h (suc i) = at_index bs h.1 i

front : (a b : List ℕ) → AreBytes (a ++ b) → AreBytes a
front [] b h = tt
front (x ∷ a) b h = (h.0, front a b h.1)

back : (a b : List ℕ) → AreBytes (a ++ b) → AreBytes b
back [] b h = h
back (x ∷ a) b h = back a b h.1

four_small : (bs : List ℕ) → AreBytes bs → from_le_bytes w32 bs < 2 ^ 32
four_small bs h = let f = at_index bs h in omega (arith, f 0, f 1, f 2, f 3)

eight_small : (bs : List ℕ) → AreBytes bs → from_le_bytes w64 bs < 2 ^ 64
eight_small bs h = let f = at_index bs h in omega (arith, f 0, f 1, f 2, f 3, f 4, f 5, f 6, f 7)

abbrev pub Formed : (ℕ → List ℕ → Value → Type 0) → (ℕ → Value → Type 0) → Type 0
Formed R F = (m : ℕ) (s : List ℕ) (v : Value) → R m s v → AreBytes s → F m v

flag_small : (n : ℕ) → cond (eqb n 0) 0 1 < 2
flag_small n = go (eqb n 0)
  where
    go : (b : Bool) → cond b 0 1 < 2
    go true = omega arith
    go false = omega arith

scalar_form : (k : ScalarKind) (p : Part) (e : Content) (body : List ℕ) → ShowsScalar k p e → SpellsPart body p → AreBytes body → FormScalar k e
scalar_form Uint32 p e body s w b = (s.0, s.3, s.2)
scalar_form Uint64 p e body s w b = let t : SpellsNumber body s.0 = subst (SpellsPart body) s.1 w in (s.0, s.2, t.fits)
scalar_form Int32 p e body s w b = let t : SpellsNumber body s.0 = subst (SpellsPart body) s.1 w in (s.0, s.3, (t.fits, s.2))
scalar_form Sint64 p e body s w b = let t : SpellsNumber body s.0 = subst (SpellsPart body) s.1 w in (s.0, s.2, t.fits)
scalar_form Flag p e body s w b = (cond (eqb s.0 0) 0 1, s.2, flag_small s.0)
scalar_form (Enum codes) p e body s w b = (s.0, s.3, s.2)
scalar_form Fixed32 p e body s w b = let t : SpellsPart body (i32 s.0) = subst (SpellsPart body) s.1 w in (s.0, s.2, omega (arith, t.1, four_small body b))
scalar_form Fixed64 p e body s w b = let t : SpellsPart body (i64 s.0) = subst (SpellsPart body) s.1 w in (s.0, s.2, omega (arith, t.1, eight_small body b))
scalar_form String p e body s w b = (s.0, s.3, s.2)
scalar_form Bytes p e body s w b = (s.0, s.2)

part_form : (R : ℕ → List ℕ → Value → Type 0) (F : ℕ → Value → Type 0) (k : Kind) (p : Part) (e : Content) (body : List ℕ) → Formed R F → ShowsContent R k p e → SpellsPart body p → AreBytes body → FormContent F k e
part_form R F (Scalar k) p e body h s w b = scalar_form k p e body s w b
part_form R F (Message m) p e body h s w b = let t : SpellsPart body (len s.0) = subst (SpellsPart body) s.2 w in (s.1, s.4, h m s.0 s.1 s.3 (back t.0 s.0 (subst AreBytes t.2 b)))

-- Entries of these slots, each of its kind's form.
abbrev pub AllForm : (ℕ → Value → Type 0) → List Slot → List Entry → Type 0
AllForm F list [] = Unit {0}
AllForm F list (x ∷ xs) = ((k : Kind) × (kind_of list x.0 ≡ Some k) × FormContent F k x.1) × AllForm F list xs

entries_form : (R : ℕ → List ℕ → Value → Type 0) (F : ℕ → Value → Type 0) (list : List Slot) (bytes : List ℕ) (fs : List Field) (es : List Entry) → Formed R F → SpellsMessage bytes fs → AreBytes bytes → ShowsEntries R list fs es → AllForm F list es
entries_form R F list bytes [] es h w b s = subst (AllForm F list) (sym s) tt
entries_form R F list bytes (f ∷ fs) es h w b (inl s) = entries_form R F list w.1 fs es h w.4 (back w.0 w.1 (subst AreBytes w.2 b)) s.1
entries_form R F list bytes (f ∷ fs) es h w b (inr s) =
    let parts = subst AreBytes w.2 b in
    let mine = subst AreBytes w.3.whole (front w.0 w.1 parts) in
    subst (AllForm F list) (sym s.5)
    ((s.0, s.3, part_form R F s.0 f.part s.1 w.3.part h s.4 w.3.part_is (back w.3.key w.3.part mine)), entries_form R F list w.1 fs s.2 h w.4 (back w.0 w.1 parts) s.6)

mine_form : (F : ℕ → Value → Type 0) (s : Slot) (ss : List Slot) (es : List Entry) → AllForm F (s ∷ ss) es → FormEntries F (members_of s) (filter (λ e. has s e.0) es)
mine_form F s ss [] a = tt
mine_form F s ss (x ∷ xs) a = go (has s x.0) refl (mine_form F s ss xs a.1)
  where
    go : (b : Bool) → has s x.0 ≡ b → FormEntries F (members_of s) (filter (λ e. has s e.0) xs) → FormEntries F (members_of s) (cond b (x ∷ filter (λ e. has s e.0) xs) (filter (λ e. has s e.0) xs))
    go true e ih = ((a.0.0, sym (ap (λ b. cond b (kind_in (members_of s) x.0) (kind_of ss x.0)) e) ∙ a.0.1, a.0.2), ih)
    go false e ih = ih

others_form : (F : ℕ → Value → Type 0) (s : Slot) (ss : List Slot) (es : List Entry) → AllForm F (s ∷ ss) es → AllForm F ss (filter (λ e. not (has s e.0)) es)
others_form F s ss [] a = tt
others_form F s ss (x ∷ xs) a = go (has s x.0) refl (others_form F s ss xs a.1)
  where
    go : (b : Bool) → has s x.0 ≡ b → AllForm F ss (filter (λ e. not (has s e.0)) xs) → AllForm F ss (cond (not b) (x ∷ filter (λ e. not (has s e.0)) xs) (filter (λ e. not (has s e.0)) xs))
    go true e ih = ih
    go false e ih = ((a.0.0, sym (ap (λ b. cond b (kind_in (members_of s) x.0) (kind_of ss x.0)) e) ∙ a.0.1, a.0.2), ih)

last_form : (F : ℕ → Value → Type 0) (members : List Member) (before es : List Entry) → FormEntries F members before → FormEntries F members es → FormEntries F members (last_of before es)
last_form F members before [] b f = b
last_form F members before (x ∷ xs) b f = last_form F members (x ∷ []) xs (f.0, tt) f.1

last_length : (before es : List Entry) → length before ≤ 1 → length (last_of before es) ≤ 1
last_length before [] le = le
last_length before (x ∷ xs) le = last_length (x ∷ []) xs (omega arith)

last_one : (before es : List Entry) → length before ≡ 1 → length (last_of before es) ≡ 1
last_one before [] e = e
last_one before (x ∷ xs) e = last_one (x ∷ []) xs refl

default_form : (k : ScalarKind) → ((codes : ℕ) → k ≡ Enum codes → 0 < codes) → FormScalar k (default_in k)
default_form Uint32 h = (0, refl, omega arith)
default_form Uint64 h = (0, refl, omega arith)
default_form Int32 h = (0, refl, (omega arith, inl (omega arith)))
default_form Sint64 h = (0, refl, omega arith)
default_form Flag h = (0, refl, omega arith)
default_form (Enum codes) h = (0, refl, h codes refl)
default_form Fixed32 h = (0, refl, omega arith)
default_form Fixed64 h = (0, refl, omega arith)
default_form String h = ([], refl, IsUtf8-nil)
default_form Bytes h = ([], refl)

default_entry : (F : ℕ → Value → Type 0) (n : ℕ) (k : ScalarKind) → ((codes : ℕ) → k ≡ Enum codes → 0 < codes) → FormEntries F (members_of (plain n k)) (default_of (plain n k))
default_entry F n k h = ((Scalar k, rw (eq-eqb n n refl) refl, default_form k h), tt)

kept_form : (F : ℕ → Value → Type 0) (s : Slot) (es kept : List Entry) → HasCodes s → FormEntries F (members_of s) es → Keeps s es kept → FormCount s kept × FormEntries F (members_of s) kept
kept_form F (plain n k) es kept d f h =
    subst (λ t. (length t ≡ 1) × FormEntries F (members_of (plain n k)) t) (sym h)
    (last_one (default_of (plain n k)) es refl, last_form F (members_of (plain n k)) (default_of (plain n k)) es (default_entry F n k d) f)
kept_form F (optional n k) es kept d f h = subst (λ t. (length t ≤ 1) × FormEntries F (members_of (optional n k)) t) (sym h) (last_length [] es (omega arith), last_form F (members_of (optional n k)) [] es tt f)
kept_form F (oneof ms) es kept d f h = subst (λ t. (length t ≤ 1) × FormEntries F ms t) (sym h.0) (h.1, f)
kept_form F (repeated n k) es kept d f h = (tt, subst (FormEntries F (members_of (repeated n k))) (sym h) f)

slots_form : (F : ℕ → Value → Type 0) (ss : List Slot) (es : List Entry) (v : Value) → IsLawfulList ss → AllForm F ss es → ShowsSlots ss es v → FormSlots F ss v
slots_form F [] es v l a s = s
slots_form F (s ∷ ss) es v l a h =
    let w = kept_form F s (filter (λ e. has s e.0) es) h.0 l.0.codes (mine_form F s ss es a) h.3 in
    (h.0, h.1, h.2, w.0, w.1, slots_form F ss (filter (λ e. not (has s e.0)) es) h.1 l.1 (others_form F s ss es a) h.4)

pub reads_form : (schema : Schema) (left place : ℕ) (bytes : List ℕ) (v : Value) → ((m : ℕ) → IsLawfulList (list_at schema m)) → AreBytes bytes → ReadsWithin schema left place bytes v → FormWithin schema left place v
unfolding ReadsWithin FormWithin
reads_form schema zero place bytes v l b r = absurd r
reads_form schema (suc left) place bytes v l b r =
    slots_form (FormWithin schema left) (list_at schema place) r.entries v (l place)
    (entries_form (ReadsWithin schema left) (FormWithin schema left) (list_at schema place) bytes r.fields r.entries (λ m s w x y. reads_form schema left m s w l y x) r.spelled b r.each) r.kept
