-- The expression that is read of a message, from the message's parts, or why there is none.
use Rattle.std.proofs.Common.{◌≡◌, ◌≤◌, ◌<◌, ◌⊎◌, inl, inr, ℕ, suc, Bool, List, [], length, get_or, Option, Some, None, Result, Ok, Err, IfOk, IfErr, refl, ap, sym, subst, ◌∙◌}
use Rattle.vx_trees.specs.Rose.{Roses, node, end, count, roses_of}
use Rattle.vx_trees.proofs.Lists.{count-roses_of}
use Rattle.vx_proto.specs.declared.element.Element.{Element}
use Rattle.vx_proto.specs.Form.{HasForm}
use Rattle.vx_proto.specs.Parts.{entries_in, text_in, octets_in, message_of}
use Rattle.vx_proto.specs.Reads.{default_value}
use Rattle.vx_proto.specs.Value.{Value, view, entries_view}
use Rattle.vx_fn_wire.specs.Expr.{Head, Expr, IsExpr}
use Rattle.vx_fn_wire.specs.Messages.{metadata_of}
use Rattle.vx_fn_wire.specs.ReadsExpr.{HoldsExpr, IsHeadOf, IsNodeOf, IsMessageOf, AreMessagesOf, ReadsExpr, RefusesCall, RefusesReadingExpr}
use Rattle.vx_fn_wire.specs.Schema.{expr_lists}
use Rattle.vx_fn_wire.specs.Seen.{expr}
use Rattle.vx_fn_wire.specs.Session.{Registry}
use Rattle.vx_fn_wire.specs.declared.error.FnWireError.{FnWireError}
use Rattle.vx_fn_wire.specs.declared.error.FnWireError.TheVariants.{OutOfMemory}
use Rattle.vx_fn_wire.specs.declared.expression.Expression.{Expression}
use Rattle.vx_fn_wire.specs.declared.scalar_fn.ScalarFn.{ScalarFn}
use Rattle.vx_fn_wire.proofs.ExprParts.{Parts, parts, child_at, AreReadTo, all_read, same_number}

module _ (registry : Registry ScalarFn) (unknown : Bool) where
  -- A node over the expressions of the children is the expression of the message.
  node_message : (v : Value) (id : List ℕ) (vs : List Value) (m : Option (List ℕ)) (below : Roses Head) (t : Expr) → HoldsExpr v id vs m → AreMessagesOf registry unknown below vs → IsNodeOf registry unknown id (metadata_of m) below t
      → IsMessageOf registry unknown t v
  node_message v id vs m below (node h us) holds read is =
      (id, vs, m, holds, subst (λ (z : Roses Head). IsHeadOf registry unknown id (metadata_of m) (count z) h) (sym is.0) is.1, subst (λ (z : Roses Head). AreMessagesOf registry unknown z vs) (sym is.0) read)

  -- Where nothing stands at the node, the message is read as none.
  node_unread : (e : FnWireError) (v : Value) (id : List ℕ) (vs : List Value) (m : Option (List ℕ)) → HoldsExpr v id vs m → (e ≡ OutOfMemory) ⊎ RefusesCall registry unknown e id (metadata_of m) (length vs)
      → (e ≡ OutOfMemory) ⊎ RefusesReadingExpr registry unknown e v
  node_unread e v id vs m holds (inl h) = inl h
  node_unread e v id vs m holds (inr h) = inr (record { depth = 0; at = v; stands = refl; cause = record { id = id; children = vs; metadata = m; holds = holds; cause = h } })

  -- What is known of a node's identifier and metadata once its children are read.
  record Read (v : Value) (id metadata : List ℕ) (ts : List Expr) : Type 0 where
    pub parts : Parts v
    pub id_is : id ≡ parts.id
    pub metadata_is : metadata ≡ metadata_of parts.metadata
    pub children : AreMessagesOf registry unknown (roses_of ts) parts.children

  read_parts : (v : Value) (es : List (ℕ × Element)) (i : ℕ) (ts : List Expr) (id metadata : List ℕ) → HasForm expr_lists 0 v → entries_view es ≡ entries_in v 1 → length es ≤ i → AreReadTo registry unknown ts es i → Some id ≡ text_in (entries_in v 0)
      → metadata ≡ metadata_of (octets_in (entries_in v 2)) → Read v id metadata ts
  read_parts v es i ts id metadata h same le so_far found md =
      let p = parts v h in
      record {
        parts = p;
        id_is = (let e : Some id ≡ Some p.id = found ∙ p.id_there in cc);
        metadata_is = md ∙ ap metadata_of p.metadata_there;
        children = all_read registry unknown ts es i p.children le (same ∙ p.children_there) so_far;
      }

  -- All children are read, and so is their node.
  pub whole_read : (v : Value) (es : List (ℕ × Element)) (i : ℕ) (ts : List Expr) (id metadata : List ℕ) (r : Result Expression FnWireError) → HasForm expr_lists 0 v → entries_view es ≡ entries_in v 1 → length es ≤ i → AreReadTo registry unknown ts es i
      → Some id ≡ text_in (entries_in v 0) → metadata ≡ metadata_of (octets_in (entries_in v 2)) → IfOk r (λ e. IsNodeOf registry unknown id metadata (roses_of ts) (expr e))
      → IfOk r (λ e. IsExpr (expr e)) → IfOk r (λ e. ReadsExpr registry unknown v (expr e))
  whole_read v es i ts id metadata (Err e) h same le so_far found md given formed = tt
  whole_read v es i ts id metadata (Ok e) h same le so_far found md given formed =
      let p = read_parts v es i ts id metadata h same le so_far found md in
      let is = node_message v p.parts.id p.parts.children p.parts.metadata (roses_of ts) (expr e) p.parts.holds p.children
      (subst (λ (z : List ℕ). IsNodeOf registry unknown p.parts.id z (roses_of ts) (expr e)) p.metadata_is (subst (λ (z : List ℕ). IsNodeOf registry unknown z metadata (roses_of ts) (expr e)) p.id_is given)) in
      record { is_expr = formed; message = is }

  pub whole_unread : (v : Value) (es : List (ℕ × Element)) (i : ℕ) (ts : List Expr) (id metadata : List ℕ) (r : Result Expression FnWireError) → HasForm expr_lists 0 v → entries_view es ≡ entries_in v 1 → length es ≤ i → AreReadTo registry unknown ts es i
      → Some id ≡ text_in (entries_in v 0) → metadata ≡ metadata_of (octets_in (entries_in v 2)) → IfErr r (λ e. (e ≡ OutOfMemory) ⊎ RefusesCall registry unknown e id metadata (length ts)) → IfErr r (λ e. (e ≡ OutOfMemory) ⊎ RefusesReadingExpr registry unknown e v)
  whole_unread v es i ts id metadata (Ok e) h same le so_far found md cause = tt
  whole_unread v es i ts id metadata (Err e) h same le so_far found md cause =
      let p = read_parts v es i ts id metadata h same le so_far found md in
      let number : length ts ≡ length p.parts.children = sym (count-roses_of ts) ∙ sym (same_number registry unknown (roses_of ts) p.parts.children p.children) in
      node_unread e v p.parts.id p.parts.children p.parts.metadata p.parts.holds
      (subst (λ (n : ℕ). (e ≡ OutOfMemory) ⊎ RefusesCall registry unknown e p.parts.id (metadata_of p.parts.metadata) n) number
      (subst (λ (z : List ℕ). (e ≡ OutOfMemory) ⊎ RefusesCall registry unknown e p.parts.id z (length ts)) p.metadata_is
      (subst (λ (z : List ℕ). (e ≡ OutOfMemory) ⊎ RefusesCall registry unknown e z metadata (length ts)) p.id_is cause)))

  -- Where a child is read as no expression, neither is the message.
  pub child_unread : (e : FnWireError) (v : Value) (es : List (ℕ × Element)) (i : ℕ) (x : ℕ × Element) (w : Value) → HasForm expr_lists 0 v → entries_view es ≡ entries_in v 1 → i < length es → x ≡ get_or es i x → Some w ≡ message_of (view x.1)
      → (e ≡ OutOfMemory) ⊎ RefusesReadingExpr registry unknown e w → (e ≡ OutOfMemory) ⊎ RefusesReadingExpr registry unknown e v
  child_unread e v es i x w h same lt is some (inl m) = inl m
  child_unread e v es i x w h same lt is some (inr u) =
      let p = parts v h in
      let at = child_at es p.children i x w lt is some (same ∙ p.children_there) in
      inr (record { depth = suc u.depth; at = u.at; stands = (w, (p.id, p.children, p.metadata, p.holds, (i, (at.within, at.at))), u.stands); cause = u.cause })

  -- A message without fields, whose identifier is empty.
  pub default_read : (v : Value) (r : Result Expression FnWireError) → v ≡ default_value expr_lists 0 → IfOk r (λ e. IsNodeOf registry unknown [] [] end (expr e)) → IfOk r (λ e. IsExpr (expr e)) → IfOk r (λ e. ReadsExpr registry unknown v (expr e))
  default_read v (Err e) is given formed = tt
  default_read v (Ok e) is given formed = record { is_expr = formed; message = node_message v [] [] None end (expr e) is refl given }

  pub default_unread : (v : Value) (r : Result Expression FnWireError) → v ≡ default_value expr_lists 0 → IfErr r (λ e. (e ≡ OutOfMemory) ⊎ RefusesCall registry unknown e [] [] 0) → IfErr r (λ e. (e ≡ OutOfMemory) ⊎ RefusesReadingExpr registry unknown e v)
  default_unread v (Ok e) is cause = tt
  default_unread v (Err e) is cause = node_unread e v [] [] None is cause
