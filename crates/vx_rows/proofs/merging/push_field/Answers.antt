-- A field that stands is one more.
use Rattle.std.proofs.Common.{List, ap, sym, subst, ◌++◌, ◌∙◌, OnOk}
use Rattle.std.specs.Prelude.{option_map}
use Rattle.vx_types.specs.Seen.{typ}
use Rattle.vx_types.specs.Value.{variant_of}
use Rattle.vx_scalars.specs.Seen.{value_of}
use Rattle.vx_array_tree.specs.Merge.{Named, raw_field}
use Rattle.vx_rows.specs.Merging.{AreNamed, not_null, raw_of}
use Rattle.vx_rows.proofs.Fieldwise.{left_kept, none_kept}
use Rattle.vx_rows.proofs.merging.push_field.Goals as goal

pub returns-in_ok-scalar-in-Some-clause-ok : goal.returns-in_ok-scalar-in-Some-clause-ok
returns-in_ok-scalar-in-Some-clause-ok c = λ fs h.
    let r = raw_of c.args.structure in
    let n = c.args.name.now in
    let s = c.in_ok-scalar-in-Some.scalar in
    let e = ap (λ o. option_map (λ f. (typ f.0.now, value_of f.1.now)) o) (sym c.in-Some.is) ∙ c.field_in.ensures.found in
    let k = left_kept n (typ c.in-Some.dtype.now) (value_of c.in-Some.value.now) (variant_of s.dtype s.value) (not_null (raw_field n r.names r.types r.values)) e c.in_ok-scalar-in-Some.ensures.ok in
    subst (λ (xs : List Named). OnOk c.push.result (AreNamed c.push.new.self (fs ++ xs))) k (c.push.ensures.ok fs h)

pub returns-in-None-clause-ok : goal.returns-in-None-clause-ok
returns-in-None-clause-ok c = λ fs h.
    let r = raw_of c.args.structure in
    let n = c.args.name.now in
    let e = ap (λ o. option_map (λ f. (typ f.0.now, value_of f.1.now)) o) (sym c.in-None.is) ∙ c.field_in.ensures.found in
    subst (λ (xs : List Named). AreNamed c.args.fields.now xs) (none_kept n (not_null (raw_field n r.names r.types r.values)) fs e) h
