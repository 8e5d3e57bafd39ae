-- One name, one type and one value more are one field more.
use Rattle.std.proofs.Common.{List, [], ◌∷◌, ◌++◌, ℕ, ap, ◌∙◌}
use Rattle.vx_types.specs.Value.{Value, variant_of}
use Rattle.vx_rows.proofs.Fieldwise.{named_push, ok_of}
use Rattle.vx_rows.proofs.named_variants.NamedVariants.push.Goals as goal

pub returns-in-Ok-Ok-Ok-clause-ok : goal.returns-in-Ok-Ok-Ok-clause-ok
returns-in-Ok-Ok-Ok-clause-ok c = λ fs h.
    let m = c.args.self.now in
    let p = ok_of c.push-named.result c.in-Ok-Ok-Ok.field-0-0 _ c.push-named.ensures.ok c.in-Ok-Ok-Ok.is-0 in
    let q = ok_of c.push-typed.result c.in-Ok-Ok-Ok.field-0-1 _ c.push-typed.ensures.ok c.in-Ok-Ok-Ok.is-1 in
    let r = ok_of c.push-valued.result c.in-Ok-Ok-Ok.field-0-2 _ c.push-valued.ensures.ok c.in-Ok-Ok-Ok.is-2 in
    named_push m (record { names = c.push-named.new.self; types = c.push-typed.new.self; values = c.push-valued.new.self }) fs c.args.name.now (variant_of c.args.scalar.dtype c.args.scalar.value) h
    (p ∙ ap (λ (n : List ℕ). m.names ++ n ∷ []) c.in_ok-name.ensures.ok) q (r ∙ ap (λ (v : Value). m.values ++ v ∷ []) c.in_ok-value.ensures.ok)
