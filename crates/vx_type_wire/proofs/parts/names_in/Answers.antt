use Rattle.std.proofs.Common.{◌∙◌, ◌+◌, ◌++◌, ◌∷◌, [], drop, ap, sym, append_assoc}
use Rattle.vx_flat.specs.Seen.{vector_seen}
use Rattle.vx_flat.proofs.LawsOfViews.{string-at, strings_in}
use Rattle.vx_type_wire.proofs.TypeViews.{drop_next}
use Rattle.vx_type_wire.proofs.parts.names_in.Goals as goal

pub loop-i-preserved : goal.loop-i-preserved
loop-i-preserved c =
    let f = vector_seen c.args.texts.now in
    let xs = strings_in f in
    let i = c.loop-i.i in
    let x = c.text.result.now in
    let here = drop_next xs i x (string-at f i x c.text.ensures) in
    ap (λ ns. ns ++ drop (i + 1) xs) c.in_ok-push.ensures.ok
    ∙ (append_assoc c.loop-i.names (c.in_ok-new.field-0 ∷ []) (drop (i + 1) xs)
    ∙ (ap (λ y. c.loop-i.names ++ (y ∷ drop (i + 1) xs)) c.in_ok-new.ensures.ok
    ∙ (ap (λ ys. c.loop-i.names ++ ys) (sym here) ∙ c.loop-i.invariant)))
