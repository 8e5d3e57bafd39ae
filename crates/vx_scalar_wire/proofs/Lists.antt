-- Lists of values as they are written, element by element.
use Rattle.std.specs.Prelude.{ℕ, zero, suc, ◌≡◌, ◌<◌, ◌+◌, ◌*◌, List, [], ◌∷◌, ◌++◌, length, take, Option, refl}
use Rattle.std.specs.Global.{Vec}
use Rattle.std.proofs.Common.{arith, get_or, sym, ap, ◌∙◌, subst, add-one}
use Rattle.vx_trees.specs.Rose.{roses_of}
use Rattle.vx_trees.specs.Walks.{nodes, nodes_of}
use Rattle.vx_proto.proofs.LawsOfRepeated.{shows_message}
use Rattle.vx_proto.proofs.LawsOfViews.{view_append}
use Rattle.vx_proto.specs.declared.element.Element.{Element}
use Rattle.vx_proto.specs.declared.element.Element.TheViews.{Message}
use Rattle.vx_proto.specs.Value.{Content, Entry, message, slots_of, entries_view, value_view}
use Rattle.vx_type_wire.specs.TypeMessage.{all_messages}
use Rattle.vx_types.specs.Well.{IsWell, AreWell}
use Rattle.vx_scalars.proofs.LawsOfLists.{size-at}
use Rattle.vx_scalars.specs.Seen.{seen, all_seen}
use Rattle.vx_scalars.specs.declared.value.ScalarValue.{ScalarValue}
use Rattle.vx_scalar_wire.specs.ScalarMessage.{value_message, value_messages}
use Rattle.vx_scalar_wire.specs.Shallow.{IsShallow, AreShallow}
use Rattle.vx_scalar_wire.specs.Writing.{RefusesWritingValue}
use Rattle.vx_scalar_wire.specs.declared.error.ScalarWireError.{ScalarWireError}
use Rattle.vx_scalar_wire.specs.declared.error.ScalarWireError.TheVariants.{OutOfMemory, BadMessage, TooDeep, MissingKind, KindMismatch, OutOfRange, BadChild, BadScalar, BadDType, BadPrecision, MessageTooLong}
use Rattle.vx_type_wire.specs.declared.error.TypeWireError.TheVariants as type_error

-- The members of a list of values.
abbrev pub written_list : List (Option ScalarValue) → List Entry
written_list vs = all_messages 1 (value_messages (roses_of (all_seen vs)))

list-more_suc : (vs : List (Option ScalarValue)) (i : ℕ) (v : Option ScalarValue) → i < length vs
    → written_list (take (suc i) vs) ≡ written_list (take i vs) ++ (1, message (slots_of (value_message (seen (get_or vs i v))))) ∷ []
list-more_suc [] i v h = absurd (omega (arith, h))
list-more_suc (x ∷ vs) zero v h = refl
list-more_suc (x ∷ vs) (suc i) v h = ap (λ es. (1, message (slots_of (value_message (seen x)))) ∷ es) (list-more_suc vs i v (omega (arith, h)))

-- One member more.
pub list-more : (vs : List (Option ScalarValue)) (i : ℕ) (v : Option ScalarValue) (out : List (ℕ × Element)) (slots : Vec (Vec (ℕ × Element))) → i < length vs → v ≡ get_or vs i v
    → entries_view out ≡ written_list (take i vs) → value_view slots.items ≡ value_message (seen v) → entries_view (out ++ (1, Message slots) ∷ []) ≡ written_list (take (i + 1) vs)
list-more vs i v out slots h e p q =
    view_append out ((1, Message slots) ∷ []) ∙ ap (λ (es : List Entry). es ++ entries_view ((1, Message slots) ∷ [])) p
    ∙ ap (λ (c : Content). written_list (take i vs) ++ (1, c) ∷ []) (shows_message slots (value_message (seen v)) q)
    ∙ ap (λ (w : Option ScalarValue). written_list (take i vs) ++ (1, message (slots_of (value_message (seen w)))) ∷ []) e
    ∙ sym (list-more_suc vs i v h) ∙ ap (λ n. written_list (take n vs)) (sym (add-one i))

shallow-more_suc : (vs : List (Option ScalarValue)) (i : ℕ) (v : Option ScalarValue) → i < length vs → AreShallow (roses_of (all_seen (take i vs))) → IsShallow (seen (get_or vs i v))
    → AreShallow (roses_of (all_seen (take (suc i) vs)))
shallow-more_suc [] i v h f g = absurd (omega (arith, h))
shallow-more_suc (x ∷ vs) zero v h f g = (g, tt)
shallow-more_suc (x ∷ vs) (suc i) v h f g = (f.0, shallow-more_suc vs i v (omega (arith, h)) f.1 g)

pub shallow-more : (vs : List (Option ScalarValue)) (i : ℕ) (v : Option ScalarValue) → i < length vs → v ≡ get_or vs i v → AreShallow (roses_of (all_seen (take i vs))) → IsShallow (seen v)
    → AreShallow (roses_of (all_seen (take (i + 1) vs)))
shallow-more vs i v h e f g = rw (add-one i) (shallow-more_suc vs i v h f (subst (λ w. IsShallow (seen w)) e g))

well-more_suc : (vs : List (Option ScalarValue)) (i : ℕ) (v : Option ScalarValue) → i < length vs → AreWell (roses_of (all_seen (take i vs))) → IsWell (seen (get_or vs i v))
    → AreWell (roses_of (all_seen (take (suc i) vs)))
well-more_suc [] i v h f g = absurd (omega (arith, h))
well-more_suc (x ∷ vs) zero v h f g = (g, tt)
well-more_suc (x ∷ vs) (suc i) v h f g = (f.0, well-more_suc vs i v (omega (arith, h)) f.1 g)

pub well-more : (vs : List (Option ScalarValue)) (i : ℕ) (v : Option ScalarValue) → i < length vs → v ≡ get_or vs i v → AreWell (roses_of (all_seen (take i vs))) → IsWell (seen v)
    → AreWell (roses_of (all_seen (take (i + 1) vs)))
well-more vs i v h e f g = rw (add-one i) (well-more_suc vs i v h f (subst (λ w. IsWell (seen w)) e g))

shallow_at : (vs : List (Option ScalarValue)) (i : ℕ) (v : Option ScalarValue) → i < length vs → AreShallow (roses_of (all_seen vs)) → IsShallow (seen (get_or vs i v))
shallow_at [] i v h f = absurd (omega (arith, h))
shallow_at (x ∷ vs) zero v h f = f.0
shallow_at (x ∷ vs) (suc i) v h f = shallow_at vs i v (omega (arith, h)) f.1

pub shallow-at : (vs : List (Option ScalarValue)) (i : ℕ) (v : Option ScalarValue) → i < length vs → v ≡ get_or vs i v → AreShallow (roses_of (all_seen vs)) → IsShallow (seen v)
shallow-at vs i v h e f = subst (λ w. IsShallow (seen w)) (sym e) (shallow_at vs i v h f)

-- An element has fewer nodes than the list has.
pub nodes-at : (vs : List (Option ScalarValue)) (i : ℕ) (v : Option ScalarValue) → i < length vs → v ≡ get_or vs i v
    → 4 * nodes (seen v) + 1 < 4 * nodes_of (roses_of (all_seen vs)) + 2
nodes-at vs i v h e =
    let f : 4 * nodes (seen (get_or vs i v)) < 4 * nodes_of (roses_of (all_seen vs)) + 2 = size-at vs i v h in
    let g : nodes (seen v) ≡ nodes (seen (get_or vs i v)) = ap (λ w. nodes (seen w)) e in
    omega (arith, f, g)

-- What hinders a part hinders the whole.
pub unwritten-whole : (e : ScalarWireError) (Part Whole : Type 0) → (Whole → Part) → RefusesWritingValue e Part → RefusesWritingValue e Whole
unwritten-whole OutOfMemory Part Whole f u = tt
unwritten-whole BadMessage Part Whole f u = absurd u
unwritten-whole TooDeep Part Whole f u = absurd u
unwritten-whole MissingKind Part Whole f u = absurd u
unwritten-whole KindMismatch Part Whole f u = absurd u
unwritten-whole BadChild Part Whole f u = absurd u
unwritten-whole BadScalar Part Whole f u = absurd u
unwritten-whole OutOfRange Part Whole f u = absurd u
unwritten-whole BadPrecision Part Whole f u = absurd u
unwritten-whole MessageTooLong Part Whole f u = absurd u
unwritten-whole (BadDType type_error.WireLimit) Part Whole f u = λ w. u (f w)
unwritten-whole (BadDType type_error.OutOfMemory) Part Whole f u = absurd u
unwritten-whole (BadDType type_error.BadTable) Part Whole f u = absurd u
unwritten-whole (BadDType type_error.TableLimit) Part Whole f u = absurd u
unwritten-whole (BadDType type_error.BadMessage) Part Whole f u = absurd u
unwritten-whole (BadDType type_error.TooDeep) Part Whole f u = absurd u
unwritten-whole (BadDType type_error.BadType) Part Whole f u = absurd u
unwritten-whole (BadDType type_error.UnknownExtension) Part Whole f u = absurd u
unwritten-whole (BadDType type_error.ExtensionRefused) Part Whole f u = absurd u
