-- Lists of expressions and of their trees, element by element.
use Rattle.std.specs.Prelude.{ℕ, ◌+◌, ◌*◌, ◌<◌, ◌≡◌, List, [], ◌∷◌, ◌++◌, length, take, refl}
use Rattle.std.proofs.Common.{arith, get_or, sym, ap, ◌∙◌, subst}
use Rattle.std.proofs.lemmas.List.{length-map, map-append, take_more}
use Rattle.vx_trees.specs.Rose.{Roses, node, roses_of}
use Rattle.vx_trees.specs.Everywhere.{Everywhere, EverywhereBelow}
use Rattle.vx_trees.specs.Walks.{nodes, nodes_of}
use Rattle.vx_trees.proofs.LawsOfMapped.{mapped-at, mapped-nodes}
use Rattle.vx_trees.proofs.Lists.{count-roses_of}
use Rattle.vx_trees.proofs.Holding.{everywhere_below-snoc, everywhere-at}
use Rattle.vx_proto.specs.Repeated.{members, as_message, messages}
use Rattle.vx_proto.specs.Value.{Entry, message, slots_of}
use Rattle.vx_types.specs.Content.{IsText}
use Rattle.vx_fn_wire.specs.Arity.{Admits}
use Rattle.vx_fn_wire.specs.Expr.{Head, call, Expr, IsExpr, AreExprs}
use Rattle.vx_fn_wire.specs.Messages.{CanWrite, IsSerializable, AreSerializable, expr_message, expr_messages}
use Rattle.vx_fn_wire.specs.Parts.{expr_size, slice_size}
use Rattle.vx_fn_wire.specs.Seen.{expr, exprs}
use Rattle.vx_fn_wire.specs.declared.expression.Expression.{Expression}
use Rattle.vx_fn_wire.specs.declared.scalar_fn.ScalarFn.{ScalarFn}

pub exprs-length : (es : List Expression) → length (exprs es) ≡ length es
exprs-length es = length-map es expr

pub exprs-at : (es : List Expression) (i : ℕ) (e : Expression) → get_or (exprs es) i (expr e) ≡ expr (get_or es i e)
exprs-at es i e = mapped-at expr es i e

pub exprs-push : (es : List Expression) (e : Expression) → exprs (es ++ e ∷ []) ≡ exprs es ++ expr e ∷ []
exprs-push es e = map-append expr es (e ∷ [])

-- An element is smaller than the list.
pub size-at : (es : List Expression) (i : ℕ) (e : Expression) → i < length es → expr_size (expr (get_or es i e)) < slice_size (exprs es)
size-at es i e h = omega (arith, mapped-nodes expr es i e h)

pub nodes_at : (es : List Expression) (i : ℕ) (e : Expression) → i < length es → e ≡ get_or es i e → 4 * nodes (expr e) < 4 * nodes_of (roses_of (exprs es)) + 1
nodes_at es i e h is = subst (λ x. expr_size (expr x) < slice_size (exprs es)) (sym is) (size-at es i e h)

-- ---- facts at each node

-- A fact that holds at each node of the first expressions, and of one more.
pub every_more : (F : Head → Roses Head → Type 0) (es : List Expression) (i : ℕ) (e : Expression) → i < length es → e ≡ get_or es i e → EverywhereBelow F (roses_of (exprs (take i es))) → Everywhere F (expr e)
    → EverywhereBelow F (roses_of (exprs (take (i + 1) es)))
every_more F es i e h is some this =
    everywhere_below-snoc F (exprs (take i es)) (exprs (take (i + 1) es)) (expr e) some this
    (ap exprs (take_more es i e h ∙ ap (λ x. take i es ++ x ∷ []) (sym is)) ∙ exprs-push (take i es) e)

-- A call is an expression over expressions, if its function's arity admits their number and its identifier is a text.
pub call_formed : (t : Expr) (f : ScalarFn) (children : List Expr) → t ≡ node (call f) (roses_of children) → Admits f.arity (length children) → IsText f.id → AreExprs children → IsExpr t
call_formed t f children is admitted text below =
    subst IsExpr (sym is) ((subst (λ (n : ℕ). Admits f.arity n) (sym (count-roses_of children)) admitted, text), below)

-- ---- options that can be written

-- Where the options of each expression can be written, so can those of the one at a place.
pub serializable_at : (es : List Expression) (i : ℕ) (e : Expression) → i < length es → e ≡ get_or es i e → AreSerializable (roses_of (exprs es)) → IsSerializable (expr e)
serializable_at es i e h is all =
    let g : i < length (exprs es) = omega (arith, h, exprs-length es) in
    subst IsSerializable (exprs-at es i e ∙ ap expr (sym is)) (everywhere-at CanWrite (exprs es) i (expr e) g all)

-- ---- messages

-- The messages of expressions, as members.
pub written_exprs : (n : ℕ) (es : List Expression) → members (as_message (λ e. expr_message (expr e))) n es ≡ messages (λ v. v) n (expr_messages (roses_of (exprs es)))
written_exprs n [] = refl
written_exprs n (e ∷ es) = ap (λ (z : List Entry). (n, message (slots_of (expr_message (expr e)))) ∷ z) (written_exprs n es)

-- For loops over expressions.
pub ruleset decreasing = (size-at, exprs-length, exprs-at)
