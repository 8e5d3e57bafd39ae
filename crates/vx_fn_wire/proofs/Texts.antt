-- The text of an expression, child by child.
use Rattle.std.proofs.Common.{◌≡◌, ◌<◌, ◌≤◌, ◌+◌, ◌-◌, ℕ, suc, List, [], ◌∷◌, ◌++◌, length, take, drop, get_or, codes, refl, ap, sym, subst, ◌∙◌, append_assoc, arith}
use Rattle.std.proofs.lemmas.List.{append-nil, take_more, take_all}
use Rattle.std.specs.Fmt.{HasWritten}
use Rattle.std.specs.declared.fmt.Formatter.{Formatter}
use Rattle.vx_trees.specs.Rose.{node, roses_of}
use Rattle.vx_fn_wire.specs.Expr.{Expr, call}
use Rattle.vx_fn_wire.specs.ExprText.{expr_text, more_text}
use Rattle.vx_fn_wire.specs.Parts.{expr_size}
use Rattle.vx_fn_wire.specs.Seen.{expr, exprs}
use Rattle.vx_fn_wire.specs.declared.expression.Expression.{Expression}
use Rattle.vx_fn_wire.specs.declared.scalar_fn.ScalarFn.{ScalarFn}
use Rattle.vx_fn_wire.proofs.Lists.{nodes_at}

-- What is written to a formatter is written to an equal one.
pub same_written : {W : Type 0} (took : W → List ℕ → W → Type 0) (f g h : Formatter W) (bs : List ℕ) → h ≡ g → HasWritten took f bs g → HasWritten took f bs h
same_written took f g h bs same written = subst (HasWritten took f bs) (sym same) written

-- The children after the first.
abbrev pub rest_of : List Expression → List Expression
rest_of es = take (length es - 1) (drop 1 es)

rest_is : (x : Expression) (es : List Expression) → rest_of (x ∷ es) ≡ es
rest_is x es = take_all (suc (length es) - 1) es (omega arith)

-- Each of them is smaller than the call.
pub smaller_child : (self : Expression) (f : ScalarFn) (children : List Expr) (es : List Expression) (i : ℕ) (e : Expression) → expr self ≡ node (call f) (roses_of children) → exprs es ≡ children
    → i < length es - 1 → e ≡ get_or (rest_of es) i e → expr_size (expr e) < expr_size (expr self)
smaller_child self f children [] i e is seen h at = absurd (omega (arith, h))
smaller_child self f children (x ∷ es) i e is seen h at =
    let g : i < length es = omega (arith, h) in
    let same : expr self ≡ node (call f) (roses_of (exprs (x ∷ es))) = is ∙ ap (λ cs. node (call f) (roses_of cs)) (sym seen) in
    subst (λ t. expr_size (expr e) < expr_size t) (sym same) (omega (arith, nodes_at es i e g (at ∙ ap (λ l. get_or l i e) (rest_is x es))))

more_text_push : (es : List Expression) (e : Expression) → more_text (roses_of (exprs (es ++ e ∷ []))) ≡ more_text (roses_of (exprs es)) ++ (codes ", " ++ expr_text (expr e))
more_text_push [] e = ap (λ (z : List ℕ). codes ", " ++ z) (append-nil (expr_text (expr e)))
more_text_push (x ∷ es) e =
    ap (λ (z : List ℕ). codes ", " ++ (expr_text (expr x) ++ z)) (more_text_push es e)
    ∙ sym (ap (λ (z : List ℕ). codes ", " ++ z) (append_assoc (expr_text (expr x)) (more_text (roses_of (exprs es))) (codes ", " ++ expr_text (expr e))))

-- One child more.
pub more_text_more : (es : List Expression) (i : ℕ) (e : Expression) → i < length es → e ≡ get_or es i e
    → more_text (roses_of (exprs (take i es))) ++ (codes ", " ++ expr_text (expr e)) ≡ more_text (roses_of (exprs (take (i + 1) es)))
more_text_more es i e h is =
    sym (more_text_push (take i es) e) ∙ ap (λ l. more_text (roses_of (exprs l))) (ap (λ x. take i es ++ x ∷ []) is ∙ sym (take_more es i e h))

pub rest_length : (es : List Expression) → length (rest_of es) ≡ length es - 1
rest_length [] = refl
rest_length (x ∷ es) = ap length (rest_is x es) ∙ omega arith

-- The text of a call without children.
pub no_children : (self : Expression) (f : ScalarFn) (children : List Expr) (es : List Expression) (id : List ℕ) → expr self ≡ node (call f) (roses_of children) → exprs es ≡ children → length es < 1 → id ≡ f.id
    → id ++ (codes "(" ++ codes ")") ≡ expr_text (expr self)
no_children self f children [] id is seen h same =
    ap (λ (z : List ℕ). z ++ (codes "(" ++ codes ")")) same ∙ sym (ap expr_text (is ∙ ap (λ cs. node (call f) (roses_of cs)) (sym seen)))
no_children self f children (x ∷ es) id is seen h same = absurd (omega (arith, h))

-- The text of a call with a first child and others.
pub with_children : (self : Expression) (f : ScalarFn) (children : List Expr) (es : List Expression) (id : List ℕ) (e : Expression) (i : ℕ) → expr self ≡ node (call f) (roses_of children) → exprs es ≡ children
    → 1 ≤ length es → e ≡ get_or es 0 e → length es - 1 ≤ i → id ≡ f.id
    → id ++ (codes "(" ++ (expr_text (expr e) ++ (more_text (roses_of (exprs (take i (rest_of es)))) ++ codes ")"))) ≡ expr_text (expr self)
with_children self f children [] id e i is seen h first all same = absurd (omega (arith, h))
with_children self f children (x ∷ es) id e i is seen h first all same =
    let rest : take i (rest_of (x ∷ es)) ≡ es = ap (take i) (rest_is x es) ∙ take_all i es (omega (arith, all)) in
    ap (λ (z : List ℕ). z ++ (codes "(" ++ (expr_text (expr e) ++ (more_text (roses_of (exprs (take i (rest_of (x ∷ es))))) ++ codes ")")))) same
    ∙ ap (λ l. f.id ++ (codes "(" ++ (expr_text (expr e) ++ (more_text (roses_of (exprs l)) ++ codes ")")))) rest
    ∙ ap (λ d. f.id ++ (codes "(" ++ (expr_text (expr d) ++ (more_text (roses_of (exprs es)) ++ codes ")")))) first
    ∙ ap (λ (z : List ℕ). f.id ++ (codes "(" ++ z)) (sym (append_assoc (expr_text (expr x)) (more_text (roses_of (exprs es))) (codes ")")))
    ∙ sym (ap expr_text (is ∙ ap (λ cs. node (call f) (roses_of cs)) (sym seen)))
