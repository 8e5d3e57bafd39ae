-- The laws of a plugin of numbers that has an identifier for few of them and one for any number.
use Rattle.std.proofs.Common.{ℕ, ◌≡◌, ◌^◌, ◌*◌, ◌&&◌, Bool, true, false, List, [], ◌∷◌, Some, None, length, nat_eq, nat_le, if◌then◌else◌, refl, ap, sym, ◌∙◌, subst}
use Rattle.std.specs.Prelude.{bytes_eq}
use Rattle.std.proofs.lemmas.Bool.{eqb-true, eq-eqb, le-leb}
use Rattle.std.proofs.lemmas.Slice.Eq.{bytes_eq-Decides}
use Rattle.vx_buffer.specs.Buffer.{Buffer}
use Rattle.vx_trees.specs.Rose.{node, end, more, label}
use Rattle.vx_numbers.specs.Numbers.{width_of}
use Rattle.vx_types.specs.Typ.{Typ}
use Rattle.vx_array_tree.specs.Body.{Body}
use Rattle.vx_array_tree.specs.Body as B
use Rattle.vx_array_tree.specs.Encodings.Primitives as Primitives
use Rattle.vx_array_tree.specs.Place.{Place, ptype_of}
use Rattle.vx_array_tree.specs.Sound.{IsSound}
use Rattle.vx_array_tree.specs.Table.{own_id, Holds}
use Rattle.vx_array_tree.specs.Tree.{Tree, Trees, places, with_stats}
use Rattle.vx_wire_tree.specs.Plugin.{NodeHead, Parts, given, head_of}
use Rattle.vx_plugin_tests.specs.Tested.{test_holds}
use Rattle.vx_plugin_tests.specs.Versioned.{most, holds, id_for, is_plain, parts, plain_answer, answer_by, answer, is_form, plan, is_filled, numbers, filled, build}

last : (a b c d e : Bool) → (a && (b && (c && (d && e)))) ≡ true → e ≡ true
last true true true true e p = p
last true true true false e p = absurd (cc)
last true true false d e p = absurd (cc)
last true false c d e p = absurd (cc)
last false b c d e p = absurd (cc)

second : (a b c d e : Bool) → (a && (b && (c && (d && e)))) ≡ true → b ≡ true
second true true c d e p = refl
second true false c d e p = absurd (cc)
second false b c d e p = absurd (cc)

fourth : (a b c d e : Bool) → (a && (b && (c && (d && e)))) ≡ true → d ≡ true
fourth true true true true e p = refl
fourth true true true false e p = absurd (cc)
fourth true true false d e p = absurd (cc)
fourth true false c d e p = absurd (cc)
fourth false b c d e p = absurd (cc)

none_planned : (ps : List Place) → Some [] ≡ Some ps → length ps ≡ 0
none_planned [] e = refl
none_planned (p ∷ ps) e = absurd (cc)

module _ (old new : List ℕ) where
  -- What has the form is of numbers without nulls, and has one buffer.
  pub form_plain : (h : NodeHead) → is_form old new h ≡ true → is_plain h.dtype ≡ true
  form_plain h e = second (holds old new h.id h.len) (is_plain h.dtype) (nat_eq (length h.metadata) 0) (nat_eq h.nbuffers 1) (nat_eq h.nchildren 0) e

  pub form_alone : (h : NodeHead) → is_form old new h ≡ true → h.nbuffers ≡ 1
  form_alone h e = eqb-true h.nbuffers 1 (fourth (holds old new h.id h.len) (is_plain h.dtype) (nat_eq (length h.metadata) 0) (nat_eq h.nbuffers 1) (nat_eq h.nchildren 0) e)

  pub one_each : (h : NodeHead) (ps : List Place) → plan old new h ≡ Some ps → length ps ≡ h.nchildren
  one_each h ps e =
      let k = test_holds (is_form old new h) (Some []) ps e in
      let childless = last (holds old new h.id h.len) (is_plain h.dtype) (nat_eq (length h.metadata) 0) (nat_eq h.nbuffers 1) (nat_eq h.nchildren 0) k.0 in
      none_planned ps k.1 ∙ sym (eqb-true h.nchildren 0 childless)

  -- What is built is numbers.
  numbers_are : (d : Typ) (n : ℕ) (bs : List Buffer) (t : Tree) → filled d n bs ≡ Some t → (b : Buffer) × (numbers d n b ≡ t)
  numbers_are d n [] t e = absurd (cc)
  numbers_are d n (b ∷ bs) t e =
      let k = test_holds (is_filled (width_of (ptype_of d)) n b) (Some (numbers d n b)) t e in
      (b, let r = k.1 in cc)

  pub as_asked : (h : NodeHead) (bs : List Buffer) (t : Tree) → build old new h bs ≡ Some t → ((label t).dtype ≡ h.dtype) × ((label t).len ≡ h.len) × (bytes_eq Primitives.id (own_id (label t).body) ≡ true)
  as_asked h bs t e =
      let k = test_holds (is_form old new h) (filled h.dtype h.len bs) t e in
      let x = numbers_are h.dtype h.len bs t k.1 in (
        ap (λ (z : Tree). (label z).dtype) (sym x.1),
        ap (λ (z : Tree). (label z).len) (sym x.1),
        ap (λ (z : Tree). bytes_eq Primitives.id (own_id (label z).body)) (sym x.1) ∙ (bytes_eq-Decides Primitives.id Primitives.id).1 refl,
      )

  -- The identifier for n rows holds them.
  passes : (a c d : Bool) → c ≡ true → d ≡ true → (if a then true else c && d) ≡ true
  passes true c d p q = refl
  passes false c d p q = λ i. p i && q i

  holds_either : (n : ℕ) (few : Bool) → nat_le n most ≡ few → holds old new (if few then old else new) n ≡ true
  holds_either n true e = passes (bytes_eq old new) (bytes_eq old old) (nat_le n most) ((bytes_eq-Decides old old).1 refl) e
  holds_either n false e = ap (λ z. if z then true else bytes_eq new old && nat_le n most) ((bytes_eq-Decides new new).1 refl)

  holds_own : (n : ℕ) → holds old new (id_for old new n) n ≡ true
  holds_own n = holds_either n (nat_le n most) refl

  -- What is written is numbers without nulls.
  record IsMade (id : List ℕ) (d : Typ) (b : Body) (ts : Trees) (y : Parts) : Type 0 where
    kept : Primitives.Data
    body : b ≡ B.primitive kept
    alone : ts ≡ end
    plain : is_plain d ≡ true
    parts_are : parts id kept ≡ y

  plain_made : (q : Bool) (id : List ℕ) (x : Primitives.Data) (y : Parts) → plain_answer q id x ≡ given y → (q ≡ true) × (parts id x ≡ y)
  plain_made true id x y e = (refl, cc)
  plain_made false id x y e = absurd (cc)

  made : (id : List ℕ) (d : Typ) (b : Body) (ts : Trees) (y : Parts) → answer_by id d b ts ≡ given y → IsMade id d b ts y
  made id d (B.primitive x) end y e =
      let k = plain_made (is_plain d) id x y e in
      record { kept = x; body = refl; alone = refl; plain = k.0; parts_are = k.1 }
  made id d (B.primitive x) (more t ts) y e = absurd (cc)
  made id d _ ts y e = absurd (cc)

  -- So they have the form that is read.
  form : (n : ℕ) (q : Bool) → q ≡ true → (holds old new (id_for old new n) n && (q && true)) ≡ true
  form n q p = λ i. holds_own n i && (p i && true)

  pub plans_again : (t : Tree) (y : Parts) → answer old new t ≡ given y → plan old new (head_of y t) ≡ Some (places y.children)
  plans_again (node h ts) y e =
      let k = made (id_for old new h.len) h.dtype h.body ts y e in
      ap (λ (z : Parts). plan old new (head_of z (node h ts))) (sym k.parts_are)
      ∙ ap (λ z. if z then Some [] else None) (form h.len (is_plain h.dtype) k.plain)
      ∙ ap (λ (z : Parts). Some (places z.children)) k.parts_are

  fill : (w n : ℕ) (b : Buffer) → Primitives.IsFilled w n b → is_filled w n b ≡ true
  fill w n b f = λ i. eq-eqb (length b.bytes) (w * n) f.length_is i && le-leb w (2 ^ b.exponent) f.aligned i

  pub builds_again : (t : Tree) (y : Parts) → IsSound t → answer old new t ≡ given y → (b : Tree) × (build old new (head_of y t) y.buffers ≡ Some b) × (t ≡ with_stats (label t).stats b)
  builds_again (node h ts) y sound e =
      let k = made (id_for old new h.len) h.dtype h.body ts y e in
      let full = fill (width_of (ptype_of h.dtype)) h.len k.kept.values (subst (λ z. Holds h.dtype h.len z) k.body sound.0.holds) in
      let built : build old new (head_of (parts (id_for old new h.len) k.kept) (node h ts)) (k.kept.values ∷ []) ≡ Some (numbers h.dtype h.len k.kept.values) =
      ap (λ z. if z then filled h.dtype h.len (k.kept.values ∷ []) else None) (form h.len (is_plain h.dtype) k.plain)
      ∙ ap (λ z. if z then Some (numbers h.dtype h.len k.kept.values) else None) full
      in (
        numbers h.dtype h.len k.kept.values,
        ap (λ (z : Parts). build old new (head_of z (node h ts)) z.buffers) (sym k.parts_are) ∙ built,
        λ i. node (record { dtype = h.dtype; len = h.len; stats = h.stats; body = k.body i }) (k.alone i),
      )
