-- The parts of the message of an expression, and the children that are read of them.
use Rattle.std.proofs.Common.{◌≡◌, ◌<◌, ◌≤◌, ◌+◌, ℕ, zero, suc, Bool, List, [], ◌∷◌, ◌++◌, length, take, get_or, Option, Some, None, refl, ap, sym, subst, ◌∙◌, arith}
use Rattle.std.proofs.lemmas.List.{take_more, take_all}
use Rattle.std.proofs.lemmas.Option.{none-some, same_Some}
use Rattle.vx_trees.specs.Rose.{Roses, end, more, count, roses_of}
use Rattle.vx_proto.specs.Schema.{plain, optional, repeated}
use Rattle.vx_proto.specs.declared.element.Element.{Element}
use Rattle.vx_proto.specs.declared.schema.Kind.TheVariants.{Message}
use Rattle.vx_proto.specs.declared.schema.ScalarKind.TheVariants.{String, Bytes}
use Rattle.vx_proto.specs.Form.{HasForm, FormEntries}
use Rattle.vx_proto.specs.Parts.{entries_in, text_in, octets_in, message_of}
use Rattle.vx_proto.specs.Repeated.{messages, nested_member}
use Rattle.vx_proto.specs.Value.{Entry, Value, view, entries_view, entries_of, slots_of, message}
use Rattle.vx_proto.specs.Written.{content_depth, entries_depth, slots_depth}
use Rattle.vx_proto.proofs.LawsOfForms.{slots_of_form, same_content, same_others}
use Rattle.vx_proto.proofs.LawsOfRepeated.{holds_message}
use Rattle.vx_proto.proofs.LawsOfSlots.{three_of}
use Rattle.vx_proto.proofs.LawsOfViews.{message_is, held_depth, entry_depth_le, slot_depth_in, entry_form}
use Rattle.vx_fn_wire.specs.Expr.{Head, Expr}
use Rattle.vx_fn_wire.specs.ReadsExpr.{HoldsExpr, IsMessageOf, AreMessagesOf}
use Rattle.vx_fn_wire.specs.Schema.{expr_lists}
use Rattle.vx_fn_wire.specs.Session.{Registry}
use Rattle.vx_fn_wire.specs.declared.scalar_fn.ScalarFn.{ScalarFn}
use Rattle.vx_fn_wire.proofs.AggregateParts.{holds_text, holds_metadata, text_there, octets_there}

abbrev F : ℕ → Value → Type 0
F = HasForm expr_lists

-- Children in their slot.
holds_children : (es : List Entry) → FormEntries F (nested_member 2 0 ∷ []) es → (vs : List Value) × (es ≡ messages (λ w. w) 2 vs)
holds_children [] f = ([], refl)
holds_children (x ∷ xs) f =
    let h = holds_message F 2 0 x (f.0, tt) in
    let r = holds_children xs f.1 in
    (h.value ∷ r.0, λ i. h.is i ∷ r.1 i)

-- A message of the form holds an identifier, children and metadata, where its accessors find them.
pub record Parts (v : Value) : Type 0 where
  pub id : List ℕ
  pub children : List Value
  pub metadata : Option (List ℕ)
  pub holds : HoldsExpr v id children metadata
  pub id_there : text_in (entries_in v 0) ≡ Some id
  pub children_there : entries_in v 1 ≡ messages (λ w. w) 2 children
  pub metadata_there : octets_in (entries_in v 2) ≡ metadata
  pub formed : FormEntries F (nested_member 2 0 ∷ []) (entries_in v 1)

pub parts : (v : Value) → HasForm expr_lists 0 v → Parts v
parts v h =
    let three = three_of F (plain 1 String) (repeated 2 (Message 0)) (optional 3 Bytes) v (slots_of_form expr_lists 0 v h) in
    let id = holds_text F 1 three.a three.has_a in
    let children = holds_children three.b three.has_b.form in
    let metadata = holds_metadata F 3 three.c three.has_c in
    record {
      id = id.text;
      children = children.0;
      metadata = metadata.0;
      holds = three.is ∙ (λ i. id.is i ∷ children.1 i ∷ metadata.1 i ∷ []);
      id_there = ap (λ w. text_in (entries_in w 0)) three.is ∙ ap text_in id.is ∙ text_there 1 id.text id.utf8;
      children_there = ap (λ w. entries_in w 1) three.is ∙ children.1;
      metadata_there = ap (λ w. octets_in (entries_in w 2)) three.is ∙ ap octets_in metadata.1 ∙ octets_there 3 metadata.0;
      formed = subst (FormEntries F (nested_member 2 0 ∷ [])) (sym (ap (λ w. entries_in w 1) three.is)) three.has_b.form;
    }

-- Each message of the form has an identifier.
pub id_found : (v : Value) → HasForm expr_lists 0 v → None ≡ text_in (entries_in v 0) → ⊥
id_found v h none = let p = parts v h in absurd (let e : None ≡ Some p.id = none ∙ p.id_there in cc)

-- ---- one child

pub children_formed : (v : Value) (es : List (ℕ × Element)) → HasForm expr_lists 0 v → entries_view es ≡ entries_in v 1 → FormEntries F (nested_member 2 0 ∷ []) (entries_view es)
children_formed v es h same = subst (FormEntries F (nested_member 2 0 ∷ [])) (sym same) (parts v h).formed

-- A member of the form holds a message.
pub child_held : (es : List (ℕ × Element)) (i : ℕ) (x : ℕ × Element) → i < length es → x ≡ get_or es i x → FormEntries F (nested_member 2 0 ∷ []) (entries_view es) → None ≡ message_of (view x.1) → ⊥
child_held es i x lt is f none =
    let h = holds_message F 2 0 (x.0, view x.1) (entry_form F (nested_member 2 0 ∷ []) es i x lt is f) in
    none-some h.value (none ∙ message_is (view x.1) h.value (ap (λ (e : Entry). e.1) h.is))

-- That message has the form.
pub child_form : (es : List (ℕ × Element)) (i : ℕ) (x : ℕ × Element) (w : Value) → i < length es → x ≡ get_or es i x → FormEntries F (nested_member 2 0 ∷ []) (entries_view es) → Some w ≡ message_of (view x.1) → HasForm expr_lists 0 w
child_form es i x w lt is f some =
    let h = holds_message F 2 0 (x.0, view x.1) (entry_form F (nested_member 2 0 ∷ []) es i x lt is f) in
    subst (F 0) (sym (same_Some w h.value (some ∙ message_is (view x.1) h.value (ap (λ (e : Entry). e.1) h.is)))) h.form

-- That message is the child at that place.
pub record IsAt (vs : List Value) (i : ℕ) (w : Value) : Type 0 where
  pub within : i < length vs
  pub at : w ≡ get_or vs i w

pub child_at : (es : List (ℕ × Element)) (vs : List Value) (i : ℕ) (x : ℕ × Element) (w : Value) → i < length es → x ≡ get_or es i x → Some w ≡ message_of (view x.1) → entries_view es ≡ messages (λ w. w) 2 vs → IsAt vs i w
child_at [] vs i x w lt is some same = absurd (omega arith)
child_at (y ∷ es) [] i x w lt is some same = absurd cc
child_at (y ∷ es) (v ∷ vs) zero x w lt is some same =
    let held : view y.1 ≡ message (slots_of v) = same_content y.0 2 (view y.1) (message (slots_of v)) (entries_view es) (messages (λ w. w) 2 vs) same in
    let this : w ≡ v = same_Some w v (some ∙ ap (λ (z : ℕ × Element). message_of (view z.1)) is ∙ message_is (view y.1) v held) in
    record { within = omega arith; at = this }
child_at (y ∷ es) (v ∷ vs) (suc i) x w lt is some same =
    let r = child_at es vs i x w (omega arith) is some (same_others y.0 2 (view y.1) (message (slots_of v)) (entries_view es) (messages (λ w. w) 2 vs) same) in
    record { within = omega (arith, r.within); at = r.at }

-- It nests less deep than the message that holds it.
pub child_depth : (v : Value) (es : List (ℕ × Element)) (i : ℕ) (x : ℕ × Element) (w : Value) → i < length es → x ≡ get_or es i x → entries_view es ≡ entries_in v 1 → Some w ≡ message_of (view x.1) → slots_depth (slots_of w) < slots_depth (slots_of v)
child_depth v es i x w lt is same some =
    let a : content_depth (view x.1) ≤ entries_depth (entries_of (entries_view es)) = entry_depth_le es i x lt is in
    let b : entries_depth (entries_of (entries_in v 1)) ≤ slots_depth (slots_of v) = slot_depth_in v 1 in
    let c : suc (slots_depth (slots_of w)) ≡ content_depth (view x.1) = held_depth (view x.1) w (sym some) in
    let d : entries_depth (entries_of (entries_view es)) ≡ entries_depth (entries_of (entries_in v 1)) = ap (λ z. entries_depth (entries_of z)) same in
    omega arith

-- ---- children one after the other

module _ (registry : Registry ScalarFn) (unknown : Bool) where
  -- The children so far are those of the messages before the index.
  abbrev pub AreReadTo : List Expr → List (ℕ × Element) → ℕ → Type 0
  AreReadTo ts es i = (vs : List Value) → entries_view es ≡ messages (λ w. w) 2 vs → AreMessagesOf registry unknown (roses_of ts) (take i vs)

  snoc : (ts : List Expr) (vs : List Value) (t : Expr) (w : Value) → AreMessagesOf registry unknown (roses_of ts) vs → IsMessageOf registry unknown t w → AreMessagesOf registry unknown (roses_of (ts ++ t ∷ [])) (vs ++ w ∷ [])
  snoc [] vs t w h m = (w, [], ap (λ (z : List Value). z ++ w ∷ []) h, m, refl)
  snoc (u ∷ ts) vs t w h m = (h.0, h.1 ++ w ∷ [], ap (λ (z : List Value). z ++ w ∷ []) h.2, h.3, snoc ts h.1 t w h.4 m)

  pub one_more : (ts us : List Expr) (t : Expr) (es : List (ℕ × Element)) (i : ℕ) (x : ℕ × Element) (w : Value) → i < length es → x ≡ get_or es i x → Some w ≡ message_of (view x.1) → us ≡ ts ++ t ∷ []
      → AreReadTo ts es i → IsMessageOf registry unknown t w → AreReadTo us es (i + 1)
  one_more ts us t es i x w lt is some pushed so_far m = λ vs same.
      let at = child_at es vs i x w lt is some same in
      let grown : take (i + 1) vs ≡ take i vs ++ w ∷ [] = take_more vs i w at.within ∙ ap (λ (z : Value). take i vs ++ z ∷ []) (sym at.at) in
      subst (λ (z : List Expr). AreMessagesOf registry unknown (roses_of z) (take (i + 1) vs)) (sym pushed)
      (subst (AreMessagesOf registry unknown (roses_of (ts ++ t ∷ []))) (sym grown) (snoc ts (take i vs) t w (so_far vs same) m))

  entries_long : (es : List (ℕ × Element)) (vs : List Value) → entries_view es ≡ messages (λ w. w) 2 vs → length vs ≡ length es
  entries_long [] [] same = refl
  entries_long [] (v ∷ vs) same = absurd cc
  entries_long (x ∷ es) [] same = absurd cc
  entries_long (x ∷ es) (v ∷ vs) same = ap (λ n. suc n) (entries_long es vs (same_others x.0 2 (view x.1) (message (slots_of v)) (entries_view es) (messages (λ w. w) 2 vs) same))

  -- Where the index is past the end, all children are read.
  pub all_read : (ts : List Expr) (es : List (ℕ × Element)) (i : ℕ) (vs : List Value) → length es ≤ i → entries_view es ≡ messages (λ w. w) 2 vs → AreReadTo ts es i → AreMessagesOf registry unknown (roses_of ts) vs
  all_read ts es i vs le same so_far = subst (AreMessagesOf registry unknown (roses_of ts)) (take_all i vs (omega (arith, entries_long es vs same))) (so_far vs same)

  -- There are as many children as messages.
  pub same_number : (ts : Roses Head) (vs : List Value) → AreMessagesOf registry unknown ts vs → length vs ≡ count ts
  same_number end vs h = ap length h
  same_number (more t ts) vs h = ap length h.2 ∙ ap (λ n. suc n) (same_number ts h.1 h.4)
