-- Laws of reading expressions. A message is of one expression at most, and where it is, no cause holds. It nests as
-- deep as the expression has levels. What is read without plugins can be written. What is written is read back where
-- the session gives the functions back.
use Rattle.std.specs.Prelude.{IsSome}
use Rattle.std.proofs.Common.{◌≡◌, ◌<◌, ℕ, zero, suc, Bool, List, [], ◌∷◌, length, get_or, Option, Some, None, refl, ap, sym, subst, ◌∙◌, arith}
use Rattle.vx_trees.specs.Rose.{Roses, node, end, more, count}
use Rattle.vx_trees.specs.Walks.{levels, levels_below}
use Rattle.vx_trees.specs.Everywhere.{EverywhereBelow}
use Rattle.vx_proto.specs.Parts.{entries_in, octets_in}
use Rattle.vx_proto.specs.Repeated.{messages}
use Rattle.vx_proto.specs.Value.{Value, octets, message, slots_of, entries_of}
use Rattle.vx_proto.specs.Written.{nested, entries_depth}
use Rattle.vx_proto.proofs.LawsOfForms.{same_slot, same_rest, same_content, same_others, same_octets, same_message}
use Rattle.vx_fn_wire.specs.Arity.{Admits}
use Rattle.vx_fn_wire.specs.Expr.{Head, root, call, Expr, IsExprNode, IsExpr}
use Rattle.vx_fn_wire.specs.Foreign.{foreign_fn}
use Rattle.vx_proto.specs.Value.{one_octets}
use Rattle.vx_fn_wire.specs.Messages.{metadata_of, root_id, expr_message, expr_messages, IsSerializable, AreSerializable}
use Rattle.vx_fn_wire.specs.ReadsExpr.{HoldsExpr, IsHeadOf, IsMessageOf, AreMessagesOf, ReadsExpr, RefusesCall, RefusesNode, StandsBelow, RefusesReadingExpr, GivesBack, GivesEachBack}
use Rattle.vx_fn_wire.specs.Session.{Registry, IsGiven, optional_octets}
use Rattle.vx_fn_wire.specs.declared.error.FnWireError.{FnWireError}
use Rattle.vx_fn_wire.specs.declared.error.FnWireError.TheVariants.{RootWithChildren, ArityMismatch}
use Rattle.vx_fn_wire.specs.declared.scalar_fn.ScalarFn.{ScalarFn}
use Rattle.vx_fn_wire.proofs.AggregateParts.{octets_there}
use Rattle.vx_fn_wire.proofs.ExprParts.{same_number}
use Rattle.vx_fn_wire.proofs.Given.{given_same, given_excludes}

-- ---- one message holds one identifier, one list of children and one metadata

messages_same : (vs ws : List Value) → messages (λ w. w) 2 vs ≡ messages (λ w. w) 2 ws → vs ≡ ws
messages_same [] [] e = refl
messages_same [] (w ∷ ws) e = absurd cc
messages_same (v ∷ vs) [] e = absurd cc
messages_same (v ∷ vs) (w ∷ ws) e =
    let first = same_message v w (same_content 2 2 (message (slots_of v)) (message (slots_of w)) (messages (λ w. w) 2 vs) (messages (λ w. w) 2 ws) e) in
    let others = messages_same vs ws (same_others 2 2 (message (slots_of v)) (message (slots_of w)) (messages (λ w. w) 2 vs) (messages (λ w. w) 2 ws) e) in
    λ i. first i ∷ others i

record Same (a b : List ℕ) (vs ws : List Value) (m n : Option (List ℕ)) : Type 0 where
  pub id : a ≡ b
  pub children : vs ≡ ws
  pub metadata : m ≡ n

holds_same : (v : Value) (a b : List ℕ) (vs ws : List Value) (m n : Option (List ℕ)) → HoldsExpr v a vs m → HoldsExpr v b ws n → Same a b vs ws m n
holds_same v a b vs ws m n h k =
    let e = sym h ∙ k in
    let first = same_slot (one_octets 1 a) (one_octets 1 b) (messages (λ w. w) 2 vs ∷ optional_octets 3 m ∷ []) (messages (λ w. w) 2 ws ∷ optional_octets 3 n ∷ []) e in
    let others = same_rest (one_octets 1 a) (one_octets 1 b) (messages (λ w. w) 2 vs ∷ optional_octets 3 m ∷ []) (messages (λ w. w) 2 ws ∷ optional_octets 3 n ∷ []) e in
    record {
      id = same_octets a b (same_content 1 1 (octets a) (octets b) [] [] first);
      children = messages_same vs ws (same_slot (messages (λ w. w) 2 vs) (messages (λ w. w) 2 ws) (optional_octets 3 m ∷ []) (optional_octets 3 n ∷ []) others);
      metadata = sym (octets_there 3 m) ∙ ap (λ z. octets_in (entries_in z 2)) e ∙ octets_there 3 n;
    }

-- ---- one function stands at a node, and no cause stands where one does

module _ (registry : Registry ScalarFn) (unknown : Bool) where
  head_same : (id metadata : List ℕ) (n : ℕ) (h k : Head) → IsHeadOf registry unknown id metadata n h → IsHeadOf registry unknown id metadata n k → h ≡ k
  head_same id metadata n root root a b = refl
  head_same id metadata n root (call g) a b = absurd (b.0 a)
  head_same id metadata n (call f) root a b = absurd (a.0 b)
  head_same id metadata n (call f) (call g) a b = ap call (given_same (registry id) unknown metadata (foreign_fn id metadata n) f g a.1 b.1)

  head_excludes : (e : FnWireError) (id metadata : List ℕ) (n : ℕ) (h : Head) (ts : Roses Head) → IsExprNode h ts → count ts ≡ n → IsHeadOf registry unknown id metadata n h → RefusesCall registry unknown e id metadata n → ⊥
  head_excludes RootWithChildren id metadata n root ts is number a c = absurd (omega (arith, is, number, c.1))
  head_excludes RootWithChildren id metadata n (call f) ts is number a c = a.0 c.0
  head_excludes ArityMismatch id metadata n root ts is number a c = c.0 a
  head_excludes ArityMismatch id metadata n (call f) ts is number a c =
      let same = given_same (registry id) unknown metadata (foreign_fn id metadata n) f c.1 a.1 c.2 in
      c.3 (subst (λ (g : ScalarFn). Admits g.arity n) same (subst (λ (k : ℕ). Admits f.arity k) number is.0))
  head_excludes e id metadata n root ts is number a c = c.0 a
  head_excludes e id metadata n (call f) ts is number a c = given_excludes e (registry id) unknown metadata (foreign_fn id metadata n) f a.1 c.1

  -- ---- one expression

  mutual
    same_expr : (t u : Expr) (v : Value) → IsMessageOf registry unknown t v → IsMessageOf registry unknown u v → t ≡ u
    same_expr (node h ts) (node k us) v a b =
        let s = holds_same v a.0 b.0 a.1 b.1 a.2 b.2 a.3 b.3 in
        let below : ts ≡ us = same_exprs ts us a.1 a.5 (subst (AreMessagesOf registry unknown us) (sym s.children) b.5) in
        let there : IsHeadOf registry unknown a.0 (metadata_of a.2) (count ts) k
        = subst (λ (n : ℕ). IsHeadOf registry unknown a.0 (metadata_of a.2) n k) (sym (ap count below))
        (subst (λ (m : Option (List ℕ)). IsHeadOf registry unknown a.0 (metadata_of m) (count us) k) (sym s.metadata)
        (subst (λ (i : List ℕ). IsHeadOf registry unknown i (metadata_of b.2) (count us) k) (sym s.id) b.4)) in
        let head = head_same a.0 (metadata_of a.2) (count ts) h k a.4 there in
        λ i. node (head i) (below i)

    same_exprs : (ts us : Roses Head) (vs : List Value) → AreMessagesOf registry unknown ts vs → AreMessagesOf registry unknown us vs → ts ≡ us
    same_exprs end end vs a b = refl
    same_exprs end (more u us) vs a b = absurd (let e : [] ≡ b.0 ∷ b.1 = sym a ∙ b.2 in cc)
    same_exprs (more t ts) end vs a b = absurd (let e : [] ≡ a.0 ∷ a.1 = sym b ∙ a.2 in cc)
    same_exprs (more t ts) (more u us) vs a b =
        let both : a.0 ∷ a.1 ≡ b.0 ∷ b.1 = sym a.2 ∙ b.2 in
        let first : a.0 ≡ b.0 = cc in
        let others : a.1 ≡ b.1 = cc in
        let here = same_expr t u a.0 a.3 (subst (IsMessageOf registry unknown u) (sym first) b.3) in
        let there = same_exprs ts us a.1 a.4 (subst (AreMessagesOf registry unknown us) (sym others) b.4) in
        λ i. more (here i) (there i)

  -- A message is read as one expression at most.
  pub one_expr : (v : Value) (e f : Expr) → ReadsExpr registry unknown v e → ReadsExpr registry unknown v f → e ≡ f
  one_expr v e f h k = same_expr e f v h.message k.message

  -- ---- no cause stands where one is read

  at_place : (ts : Roses Head) (vs : List Value) (i : ℕ) (w : Value) → EverywhereBelow IsExprNode ts → AreMessagesOf registry unknown ts vs → i < length vs → w ≡ get_or vs i w → (t : Expr) × ReadsExpr registry unknown w t
  at_place end vs i w is h lt at = absurd (omega (arith, lt, ap length h))
  at_place (more t ts) vs zero w is h lt at =
      let this : w ≡ h.0 = at ∙ ap (λ (z : List Value). get_or z 0 w) h.2 in
      (t, record { is_expr = is.0; message = subst (IsMessageOf registry unknown t) (sym this) h.3 })
  at_place (more t ts) vs (suc i) w is h lt at =
      let long : length vs ≡ suc (length h.1) = ap length h.2 in
      at_place ts h.1 i w is.1 h.4 (omega (arith, lt, long)) (at ∙ ap (λ (z : List Value). get_or z (suc i) w) h.2)

  below_read : (n : ℕ) (v w : Value) (t : Expr) → ReadsExpr registry unknown v t → StandsBelow n v w → (u : Expr) × ReadsExpr registry unknown w u
  below_read zero v w t h same = (t, subst (λ (z : Value). ReadsExpr registry unknown z t) same h)
  below_read (suc n) v w (node h ts) r s =
      let m = r.message in
      let among = s.1.4 in
      let parts = holds_same v m.0 s.1.0 m.1 s.1.1 m.2 s.1.2 m.3 s.1.3 in
      let here = at_place ts s.1.1 among.0 s.0 r.is_expr.1 (subst (AreMessagesOf registry unknown ts) parts.children m.5) among.1.0 among.1.1 in
      below_read n s.0 w here.0 here.1 s.2

  node_excludes : (e : FnWireError) (v : Value) (t : Expr) → ReadsExpr registry unknown v t → RefusesNode registry unknown e v → ⊥
  node_excludes e v (node h ts) r c =
      let m = r.message in
      let s = holds_same v m.0 c.id m.1 c.children m.2 c.metadata m.3 c.holds in
      let number : length c.children ≡ count ts = ap length (sym s.children) ∙ same_number registry unknown ts m.1 m.5 in
      head_excludes e m.0 (metadata_of m.2) (count ts) h ts r.is_expr.0 refl m.4
      (subst (λ (n : ℕ). RefusesCall registry unknown e m.0 (metadata_of m.2) n) number
      (subst (λ (z : Option (List ℕ)). RefusesCall registry unknown e m.0 (metadata_of z) (length c.children)) (sym s.metadata)
      (subst (λ (i : List ℕ). RefusesCall registry unknown e i (metadata_of c.metadata) (length c.children)) (sym s.id) c.cause)))

  -- Where a message is read as an expression, it has no cause to be read as none.
  pub read_uncaused : (e : FnWireError) (v : Value) (t : Expr) → ReadsExpr registry unknown v t → RefusesReadingExpr registry unknown e v → ⊥
  read_uncaused e v t r u =
      let at = below_read u.depth v u.at t r u.stands in
      node_excludes e u.at at.0 at.1 u.cause

  -- ---- how deep, and that it can be written

  depth_of : (id : List ℕ) (vs : List Value) (m : Option (List ℕ)) → nested (one_octets 1 id ∷ messages (λ w. w) 2 vs ∷ optional_octets 3 m ∷ []) ≡ suc (entries_depth (entries_of (messages (λ w. w) 2 vs)))
  depth_of id vs None = omega arith
  depth_of id vs (Some s) = omega arith

  mutual
    message_depth : (t : Expr) (v : Value) → IsMessageOf registry unknown t v → nested v ≡ levels t
    message_depth (node h ts) v m = ap nested m.3 ∙ depth_of m.0 m.1 m.2 ∙ ap (λ n. suc n) (messages_depth ts m.1 m.5)

    messages_depth : (ts : Roses Head) (vs : List Value) → AreMessagesOf registry unknown ts vs → entries_depth (entries_of (messages (λ w. w) 2 vs)) ≡ levels_below ts
    messages_depth end vs h = ap (λ z. entries_depth (entries_of (messages (λ w. w) 2 z))) h
    messages_depth (more t ts) vs h =
        ap (λ z. entries_depth (entries_of (messages (λ w. w) 2 z))) h.2
        ∙ omega (arith, message_depth t h.0 h.3, messages_depth ts h.1 h.4)

  -- The message that is read as an expression nests as deep as that has levels.
  pub read_depth : (v : Value) (t : Expr) → ReadsExpr registry unknown v t → nested v ≡ levels t
  read_depth v t r = message_depth t v r.message

  foreign_written : (reader : Option (List ℕ → Option ScalarFn)) (metadata : List ℕ) (f g : ScalarFn) → reader ≡ None → IsSome g.options → IsGiven reader unknown metadata g f → IsSome f.options
  foreign_written None metadata f g none some h = subst (λ (z : ScalarFn). IsSome z.options) (sym h.1) some
  foreign_written (Some gives) metadata f g none some h = absurd (let e : Some gives ≡ None = none in cc)

  module _ (none : (id : List ℕ) → registry id ≡ None) where
    mutual
      writable : (t : Expr) (v : Value) → IsMessageOf registry unknown t v → IsSerializable t
      writable (node root ts) v m = (tt, all_writable ts m.1 m.5)
      writable (node (call f) ts) v m = (foreign_written (registry m.0) (metadata_of m.2) f (foreign_fn m.0 (metadata_of m.2) (count ts)) (none m.0) refl m.4.1, all_writable ts m.1 m.5)

      all_writable : (ts : Roses Head) (vs : List Value) → AreMessagesOf registry unknown ts vs → AreSerializable ts
      all_writable end vs h = tt
      all_writable (more t ts) vs h = (writable t h.0 h.3, all_writable ts h.1 h.4)

    -- Where no identifier has a plugin, what is read can be written.
    pub read_writable : (v : Value) (t : Expr) → ReadsExpr registry unknown v t → IsSerializable t
    read_writable v t r = writable t v r.message

  -- ---- what is written is read

  mutual
    written : (t : Expr) → GivesEachBack registry unknown t → IsMessageOf registry unknown t (expr_message t)
    written (node root ts) h = (root_id, expr_messages ts, Some [], refl, refl, all_written ts h.1)
    written (node (call f) ts) h = (f.id, expr_messages ts, Some (metadata_of f.options), refl, h.0, all_written ts h.1)

    all_written : (ts : Roses Head) → EverywhereBelow (GivesBack registry unknown) ts → AreMessagesOf registry unknown ts (expr_messages ts)
    all_written end h = refl
    all_written (more t ts) h = (expr_message t, expr_messages ts, refl, written t h.0, all_written ts h.1)

  -- The message of an expression is read as it, where the session gives each of its functions back.
  pub written_read : (t : Expr) → IsExpr t → GivesEachBack registry unknown t → ReadsExpr registry unknown (expr_message t) t
  written_read t is h = record { is_expr = is; message = written t h }
