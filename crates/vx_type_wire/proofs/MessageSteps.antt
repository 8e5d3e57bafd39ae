-- The steps of the code that reads and writes the messages of types.
use Rattle.std.specs.Prelude.{option_and_then}
use Rattle.std.proofs.Common.{◌≡◌, ℕ, zero, suc, ◌+◌, ◌-◌, ◌<◌, ◌≤◌, List, [], ◌∷◌, ◌++◌, length, get_or, drop, Option, Some, None, refl, ap, sym, subst, ◌∙◌, arith}
use Rattle.std.proofs.lemmas.List.{drop_all}
use Rattle.vx_trees.specs.Rose.{node, roses_of}
use Rattle.vx_proto.specs.declared.element.Element.{Element}
use Rattle.vx_proto.specs.Parts.{entries_in, message_of, text_of}
use Rattle.vx_proto.specs.Repeated.{members, as_message}
use Rattle.vx_proto.specs.Value.{Entry, Value, message, view, entries_view, slots_of}
use Rattle.vx_proto.proofs.LawsOfParts.{entries_at}
use Rattle.vx_types.specs.declared.dtype.DType.{DType}
use Rattle.vx_types.specs.Seen.{typ, typs}
use Rattle.vx_types.specs.Typ.{Typ}
use Rattle.vx_type_wire.specs.declared.error.TypeWireError.{TypeWireError}
use Rattle.vx_type_wire.specs.Answers.{Fails}
use Rattle.vx_type_wire.specs.Reading.{more_from}
use Rattle.vx_type_wire.specs.TypeMessage.{all_messages, in_oneof, parts_below, type_message, type_messages}
use Rattle.vx_type_wire.specs.Written.{tag_at}
use Rattle.vx_type_wire.specs.MessageReading.{with_text, texts_in, types_in, member_in, oneof_in, type_in}
use Rattle.vx_type_wire.proofs.Named.{named, named_end, named_push}
use Rattle.vx_type_wire.proofs.OfParts.{through}
use Rattle.vx_type_wire.proofs.Rows.{joined, joined_end, joined_push, joined_none}

-- ---- a oneof

pub first_is : (es : List (ℕ × Element)) (x : ℕ × Element) → 1 ≤ length es → x ≡ get_or es 0 x → entries_view es ≡ (x.0, view x.1) ∷ entries_view (drop 1 es)
first_is [] x h e = absurd (omega (arith, h))
first_is (y ∷ es) x h e = ap (λ (z : ℕ × Element). (z.0, view z.1) ∷ entries_view es) (sym e)

pub type_step : (left : ℕ) (v : Value) (x : Entry) (xs : List Entry) (w : Value) → 0 < left → entries_in v 0 ≡ x ∷ xs → Some w ≡ message_of x.1 → member_in (type_in (left - 1)) x.0 w ≡ type_in left v
unfolding type_in
type_step zero v x xs w h e m = absurd (omega arith)
type_step (suc left) v x xs w h e m =
    let q : suc left - 1 ≡ left = omega arith in
    ap (λ k. member_in (type_in k) x.0 w) q ∙ ap (option_and_then (member_in (type_in left) x.0)) m ∙ ap (oneof_in (type_in left)) (sym e)

-- ---- types

-- The types so far, before those of the members that are left, are all.
abbrev pub TypesSoFar : (Value → Option Typ) → List Typ → List (ℕ × Element) → ℕ → Type 0
TypesSoFar inside ts es i = joined (roses_of ts) (types_in inside (entries_view (drop i es))) ≡ types_in inside (entries_view es)

types_here : (inside : Value → Option Typ) (ts : List Typ) (es : List (ℕ × Element)) (i : ℕ) (x : ℕ × Element) → i < length es → x ≡ get_or es i x → TypesSoFar inside ts es i
    → types_in inside (entries_view es) ≡ joined (roses_of ts) (more_from (option_and_then inside (message_of (view x.1))) (types_in inside (entries_view (drop (i + 1) es))))
types_here inside ts es i x lt is so_far = sym so_far ∙ ap (λ (z : List Entry). joined (roses_of ts) (types_in inside z)) (entries_at es i x lt is)

pub type_absent : (inside : Value → Option Typ) (ts : List Typ) (es : List (ℕ × Element)) (i : ℕ) (x : ℕ × Element) → i < length es → x ≡ get_or es i x → TypesSoFar inside ts es i
    → None ≡ message_of (view x.1) → types_in inside (entries_view es) ≡ None
type_absent inside ts es i x lt is so_far none =
    types_here inside ts es i x lt is so_far
    ∙ ap (λ m. joined (roses_of ts) (more_from (option_and_then inside m) (types_in inside (entries_view (drop (i + 1) es))))) (sym none) ∙ joined_none (roses_of ts)

pub type_fails : (inside : Value → Option Typ) (ts : List Typ) (es : List (ℕ × Element)) (i : ℕ) (x : ℕ × Element) (w : Value) (e : TypeWireError) → i < length es → x ≡ get_or es i x → TypesSoFar inside ts es i
    → Some w ≡ message_of (view x.1) → Fails e (inside w) → Fails e (types_in inside (entries_view es))
type_fails inside ts es i x w e lt is so_far some h =
    subst (λ z. Fails e z) (sym (types_here inside ts es i x lt is so_far ∙ ap (λ m. joined (roses_of ts) (more_from (option_and_then inside m) (types_in inside (entries_view (drop (i + 1) es))))) (sym some)))
    (through (λ y. joined (roses_of ts) (more_from y (types_in inside (entries_view (drop (i + 1) es))))) (inside w) e (joined_none (roses_of ts)) h)

pub type_joined : (inside : Value → Option Typ) (ts us : List Typ) (t : Typ) (es : List (ℕ × Element)) (i : ℕ) (x : ℕ × Element) (w : Value) → i < length es → x ≡ get_or es i x → TypesSoFar inside ts es i
    → Some w ≡ message_of (view x.1) → inside w ≡ Some t → us ≡ ts ++ t ∷ [] → TypesSoFar inside us es (i + 1)
type_joined inside ts us t es i x w lt is so_far some read more =
    ap (λ z. joined (roses_of z) (types_in inside (entries_view (drop (i + 1) es)))) more
    ∙ joined_push ts t (types_in inside (entries_view (drop (i + 1) es)))
    ∙ ap (λ y. joined (roses_of ts) (more_from y (types_in inside (entries_view (drop (i + 1) es))))) (sym read)
    ∙ ap (λ m. joined (roses_of ts) (more_from (option_and_then inside m) (types_in inside (entries_view (drop (i + 1) es))))) some
    ∙ sym (types_here inside ts es i x lt is so_far)

pub types_done : (inside : Value → Option Typ) (ts : List Typ) (es : List (ℕ × Element)) (i : ℕ) → length es ≤ i → TypesSoFar inside ts es i → types_in inside (entries_view es) ≡ Some (roses_of ts)
types_done inside ts es i le so_far = sym so_far ∙ ap (λ (z : List (ℕ × Element)). joined (roses_of ts) (types_in inside (entries_view z))) (drop_all i es le) ∙ joined_end ts

-- ---- names

abbrev pub NamesSoFar : List (List ℕ) → List (ℕ × Element) → ℕ → Type 0
NamesSoFar ns es i = named ns (texts_in (entries_view (drop i es))) ≡ texts_in (entries_view es)

names_here : (ns : List (List ℕ)) (es : List (ℕ × Element)) (i : ℕ) (x : ℕ × Element) → i < length es → x ≡ get_or es i x → NamesSoFar ns es i
    → texts_in (entries_view es) ≡ named ns (with_text (text_of (view x.1)) (texts_in (entries_view (drop (i + 1) es))))
names_here ns es i x lt is so_far = sym so_far ∙ ap (λ (z : List Entry). named ns (texts_in z)) (entries_at es i x lt is)

pub name_absent : (ns : List (List ℕ)) (es : List (ℕ × Element)) (i : ℕ) (x : ℕ × Element) → i < length es → x ≡ get_or es i x → NamesSoFar ns es i → None ≡ text_of (view x.1) → texts_in (entries_view es) ≡ None
name_absent ns es i x lt is so_far none =
    names_here ns es i x lt is so_far ∙ ap (λ m. named ns (with_text m (texts_in (entries_view (drop (i + 1) es))))) (sym none)

pub name_joined : (ns ms : List (List ℕ)) (s : List ℕ) (es : List (ℕ × Element)) (i : ℕ) (x : ℕ × Element) → i < length es → x ≡ get_or es i x → NamesSoFar ns es i
    → Some s ≡ text_of (view x.1) → ms ≡ ns ++ s ∷ [] → NamesSoFar ms es (i + 1)
name_joined ns ms s es i x lt is so_far some more =
    ap (λ z. named z (texts_in (entries_view (drop (i + 1) es)))) more
    ∙ named_push ns s (texts_in (entries_view (drop (i + 1) es)))
    ∙ ap (λ m. named ns (with_text m (texts_in (entries_view (drop (i + 1) es))))) some
    ∙ sym (names_here ns es i x lt is so_far)

pub names_done : (ns : List (List ℕ)) (es : List (ℕ × Element)) (i : ℕ) → length es ≤ i → NamesSoFar ns es i → texts_in (entries_view es) ≡ Some ns
names_done ns es i le so_far = sym so_far ∙ ap (λ (z : List (ℕ × Element)). named ns (texts_in (entries_view z))) (drop_all i es le) ∙ named_end ns

-- ---- writing types

-- The messages of types, as members.
pub written_types : (n : ℕ) (ts : List DType) → members (as_message (λ d. type_message (typ d))) n ts ≡ all_messages n (type_messages (roses_of (typs ts)))
written_types n [] = refl
written_types n (t ∷ ts) = ap (λ (z : List Entry). (n, message (slots_of (type_message (typ t)))) ∷ z) (written_types n ts)

-- A type's message is that of its kind's, in the oneof.
pub whole_message : (t : Typ) → type_message t ≡ in_oneof (tag_at t) (parts_below t)
whole_message (node k ts) = refl

-- The type of the first member of a oneof.
pub type_found : (es : List (ℕ × Element)) (x y : ℕ × Element) (left : ℕ) (v w : Value) → 1 ≤ length es → 0 < left → entries_view es ≡ entries_in v 0 → Some w ≡ message_of (view (get_or es 0 y).1)
    → member_in (type_in (left - 1)) (get_or es 0 x).0 w ≡ type_in left v
type_found [] x y left v w h pos e m = absurd (omega (arith, h))
type_found (z ∷ es) x y left v w h pos e m = type_step left v (z.0, view z.1) (entries_view es) w pos (sym e) m
