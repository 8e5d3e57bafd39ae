-- The fields that are left over are gathered name by name.
use Rattle.std.proofs.Common.{None, ap, sym, subst, ◌++◌, ◌+◌, ◌∙◌, take}
use Rattle.std.specs.Prelude.{option_map}
use Rattle.vx_types.specs.Seen.{typ}
use Rattle.vx_scalars.specs.Seen.{value_of}
use Rattle.vx_array_tree.specs.Merge.{raw_field}
use Rattle.vx_rows.specs.Merging.{AreNamed, left_over, listed, not_null, other_at, raw_of}
use Rattle.vx_rows.specs.declared.named_variants.NamedVariants.{NamedVariants}
use Rattle.vx_rows.proofs.Fieldwise.{ok_of, other_given, other_left}
use Rattle.vx_rows.proofs.Merged.{step_on, step_past}
use Rattle.vx_rows.proofs.merging.push_others.Goals as goal
use Rattle.vx_rows.proofs.merging.push_others.Goals.{in-Some, in-None+in_ok-push_field-in-None}

pub loop-name-preserved : goal.loop-name-preserved
loop-name-preserved c = λ fs h.
    let t = raw_of c.args.typed in
    let r = raw_of c.args.raw in
    let ns = c.as_slice-name-items.result.now in
    let i = c.loop-name.name-index in
    let n = c.name-item.result in
    let before = c.loop-name.invariant fs h in
    elim c.match-field_in.branch [
      | in-Some w ↦
          let e = ap (λ o. option_map (λ f. (typ f.0.now, value_of f.1.now)) o) (sym w.in-Some.is) ∙ c.field_in.ensures.found in
          subst (λ (f : NamedVariants). AreNamed f (fs ++ listed (other_at t r) (take (i + 1) ns))) (sym w.fields-is)
          (step_past (other_at t r) ns i n fs c.loop-name.fields c.loop-name-test.true c.name-item.is (other_given t r n _ e) before)
      | in-None+in_ok-push_field-in-None w ↦
          let e = ap (λ o. option_map (λ f. (typ f.0.now, value_of f.1.now)) o) (sym w.in-None.is) ∙ c.field_in.ensures.found in
          let o = left_over None (not_null (raw_field n r.names r.types r.values)) in
          let p = ok_of w.push_field.result w.in_ok-push_field-in-None.field-0 _ (w.push_field.ensures.ok (fs ++ listed (other_at t r) (take i ns)) before) w.in_ok-push_field-in-None.was in
          subst (λ (f : NamedVariants). AreNamed f (fs ++ listed (other_at t r) (take (i + 1) ns))) (sym w.fields-is)
          (step_on (other_at t r) ns i n fs w.push_field.new.fields o c.loop-name-test.true c.name-item.is (other_left t r n e) p)
    ]
