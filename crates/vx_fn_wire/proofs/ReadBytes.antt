-- Expressions from bytes: why none is read, and that at most one result is right.
use Rattle.std.proofs.Common.{◌≡◌, ◌≤◌, ◌⊎◌, inl, inr, ℕ, zero, suc, Bool, true, false, if◌then◌else◌, eqb, List, [], ◌∷◌, Some, None, Result, Ok, Err, IfOk, IfErr, MatchResult, refl, subst, arith}
use Rattle.std.specs.Prelude.{IsErr, is_some}
use Rattle.vx_trees.specs.Walks.{levels}
use Rattle.vx_proto.specs.declared.error.ProtoError.{ProtoError}
use Rattle.vx_proto.specs.declared.error.ProtoError.TheVariants as proto
use Rattle.vx_proto.specs.declared.schema.Kind.{Kind}
use Rattle.vx_proto.specs.declared.schema.Kind.TheVariants.{Scalar, Message}
use Rattle.vx_proto.specs.declared.schema.ScalarKind.TheVariants.{String, Bytes}
use Rattle.vx_proto.specs.Schema.{list_at, kind_of}
use Rattle.vx_proto.specs.Reads.{Reads, Cause, PartCause, SomeKnown, IsPast, IsWithin}
use Rattle.vx_proto.specs.Wire.{Part, Field, cut}
use Rattle.vx_proto.specs.Value.{Value}
use Rattle.vx_proto.specs.Written.{nested}
use Rattle.vx_proto.proofs.LawsOfMessages as laws
use Rattle.vx_fn_wire.specs.Expr.{Expr}
use Rattle.vx_fn_wire.specs.ReadsExpr.{ReadsExpr, RefusesReadingExpr, ReadsExprBytes, RefusesReadingExprBytes}
use Rattle.vx_fn_wire.specs.Refusals.{refusal_of_proto}
use Rattle.vx_fn_wire.specs.Schema.{expr_lists}
use Rattle.vx_fn_wire.specs.Seen.{expr}
use Rattle.vx_fn_wire.specs.Session.{Registry}
use Rattle.vx_fn_wire.specs.declared.error.FnWireError.{FnWireError}
use Rattle.vx_fn_wire.specs.declared.error.FnWireError.TheVariants.{OutOfMemory, BadMessage, TooDeep}
use Rattle.vx_fn_wire.specs.declared.expression.Expression.{Expression}
use Rattle.vx_fn_wire.specs.declared.scalar_fn.ScalarFn.{ScalarFn}
use Rattle.vx_fn_wire.proofs.LawsOfExpressions.{one_expr, read_uncaused, read_depth}

-- ---- no number of the message is out of its range, since it has none

-- A kind of the message of an expression: a text, bytes, or such a message.
abbrev IsKind : Kind → Type 0
IsKind k = (k ≡ Scalar String) ⊎ ((k ≡ Message 0) ⊎ (k ≡ Scalar Bytes))

known_kind : (n : ℕ) (k : Kind) → kind_of (list_at expr_lists 0) n ≡ Some k → IsKind k
known_kind n k = go (eqb 1 n) (eqb 2 n) (eqb 3 n)
  where
    go : (a b c : Bool) → (if is_some (if a then Some (Scalar String) else None) then (if a then Some (Scalar String) else None) else
        (if is_some (if b then Some (Message 0) else None) then (if b then Some (Message 0) else None) else
        (if is_some (if c then Some (Scalar Bytes) else None) then (if c then Some (Scalar Bytes) else None) else None))) ≡ Some k → IsKind k
    go true b c e = inl cc
    go false true c e = inr (inl cc)
    go false false true e = inr (inr cc)
    go false false false e = absurd cc

-- A part of such a kind has no number; a message within has none either.
part_none : (inside : ℕ → List ℕ → Type 0) → ((s : List ℕ) → inside 0 s → ⊥) → (k : Kind) (p : Part) → IsKind k → PartCause inside proto.OutOfRange k p → ⊥
part_none inside none k p is (inl h) = absurd (let e : proto.OutOfRange ≡ proto.BadMessage = h.0 in cc)
part_none inside none k p is (inr (inl h)) = absurd (let e : proto.OutOfRange ≡ proto.BadMessage = h.0 in cc)
part_none inside none k p (inl is) (inr (inr (inl h))) = subst (λ (j : Kind). IsPast j p) is h.1
part_none inside none k p (inr (inl is)) (inr (inr (inl h))) = subst (λ (j : Kind). IsPast j p) is h.1
part_none inside none k p (inr (inr is)) (inr (inr (inl h))) = subst (λ (j : Kind). IsPast j p) is h.1
part_none inside none k p (inl is) (inr (inr (inr h))) = subst (λ (j : Kind). IsWithin inside j p) is h
part_none inside none k p (inr (inl is)) (inr (inr (inr h))) = let w = subst (λ (j : Kind). IsWithin inside j p) is h in none w.0 w.2
part_none inside none k p (inr (inr is)) (inr (inr (inr h))) = subst (λ (j : Kind). IsWithin inside j p) is h

parts_none : (inside : ℕ → List ℕ → Type 0) → ((s : List ℕ) → inside 0 s → ⊥) → (fs : List Field) → SomeKnown (PartCause inside proto.OutOfRange) (list_at expr_lists 0) fs → ⊥
parts_none inside none [] h = h
parts_none inside none (f ∷ fs) (inl h) = part_none inside none h.0 f.part (known_kind f.number h.0 h.1) h.2
parts_none inside none (f ∷ fs) (inr h) = parts_none inside none fs h

-- A number out of its range occurs nowhere.
no_range : (left : ℕ) (bytes : List ℕ) → Cause expr_lists left proto.OutOfRange 0 bytes → ⊥
unfolding Cause
no_range zero bytes h = absurd (let e : proto.OutOfRange ≡ proto.TooDeep = h in cc)
no_range (suc left) bytes (inl h) = parts_none (Cause expr_lists left proto.OutOfRange) (no_range left) (cut bytes).0 h
no_range (suc left) bytes (inr (inl h)) = absurd (let e : proto.OutOfRange ≡ proto.BadMessage = h.0 in cc)
no_range (suc left) bytes (inr (inr h)) = absurd (let e : proto.OutOfRange ≡ proto.BadMessage = h.0 in cc)

-- ---- answers

module _ (registry : Registry ScalarFn) (unknown : Bool) where
  -- At most one expression is read of a message, and where one is, the only refusal is `OutOfMemory`.
  pub one_read : (v : Value) (r : Result Expression FnWireError) → IfOk r (λ x. ReadsExpr registry unknown v (expr x)) → IfErr r (λ e. (e ≡ OutOfMemory) ⊎ RefusesReadingExpr registry unknown e v) → (t : Expr) → ReadsExpr registry unknown v t
      → MatchResult r (λ x. expr x ≡ t) (λ e. e ≡ OutOfMemory)
  one_read v (Ok x) read cause t h = one_expr registry unknown v (expr x) t read h
  one_read v (Err e) read (inl m) t h = m
  one_read v (Err e) read (inr c) t h = absurd (read_uncaused registry unknown e v t h c)

  -- A message is refused where a cause holds.
  pub none_read : (v : Value) (r : Result Expression FnWireError) → IfOk r (λ x. ReadsExpr registry unknown v (expr x)) → (e : FnWireError) → RefusesReadingExpr registry unknown e v → IsErr r
  none_read v (Ok x) read e c = absurd (read_uncaused registry unknown e v (expr x) read c)
  none_read v (Err y) read e c = refl

  -- Why bytes are no message is also why they are read as no expression.
  pub bytes_unread : (bytes : List ℕ) (p : ProtoError) → (p ≡ proto.OutOfMemory) ⊎ Cause expr_lists 100 p 0 bytes → (refusal_of_proto p ≡ OutOfMemory) ⊎ RefusesReadingExprBytes registry unknown (refusal_of_proto p) bytes
  bytes_unread bytes proto.OutOfMemory h = inl refl
  bytes_unread bytes proto.BadMessage (inl m) = absurd cc
  bytes_unread bytes proto.BadMessage (inr c) = inr c
  bytes_unread bytes proto.TooDeep (inl m) = absurd cc
  bytes_unread bytes proto.TooDeep (inr c) = inr c
  bytes_unread bytes proto.OutOfRange (inl m) = absurd cc
  bytes_unread bytes proto.OutOfRange (inr c) = absurd (no_range 100 bytes c)

  -- The expression of bytes is the expression of the message that they show.
  pub of_bytes : (bytes : List ℕ) (v : Value) (t : Expr) → Reads expr_lists 0 bytes v → ReadsExprBytes registry unknown bytes t → ReadsExpr registry unknown v t
  of_bytes bytes v t shown h = subst (λ (w : Value). ReadsExpr registry unknown w t) (laws.reads_one expr_lists 0 bytes h.value v h.shown shown) h.read

  -- Bytes that show a message are refused where the message is.
  pub refused_bytes : (bytes : List ℕ) (v : Value) (r : Result Expression FnWireError) (e : FnWireError) → Reads expr_lists 0 bytes v → ((x : FnWireError) → RefusesReadingExpr registry unknown x v → IsErr r) → RefusesReadingExprBytes registry unknown e bytes → IsErr r
  refused_bytes bytes v r BadMessage shown refused c = absurd (laws.read_uncaused expr_lists 0 bytes v proto.BadMessage shown c)
  refused_bytes bytes v r TooDeep shown refused c = absurd (laws.read_uncaused expr_lists 0 bytes v proto.TooDeep shown c)
  refused_bytes bytes v r e shown refused c = refused e (subst (RefusesReadingExpr registry unknown e) (laws.reads_one expr_lists 0 bytes c.0 v c.1.0 shown) c.1.1)

  -- What is read of a message has as many levels as messages nest there.
  pub read_shallow : (v : Value) (r : Result Expression FnWireError) → nested v ≤ 100 → IfOk r (λ x. ReadsExpr registry unknown v (expr x)) → IfOk r (λ x. levels (expr x) ≤ 100)
  read_shallow v (Ok x) le read = omega (arith, le, read_depth registry unknown v (expr x) read)
  read_shallow v (Err e) le read = tt
