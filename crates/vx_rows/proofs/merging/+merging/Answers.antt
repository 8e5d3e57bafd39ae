-- Structs are merged field by field: those that are given, and then those that are left over.
use Rattle.std.proofs.Common.{[], Some, ap, sym, subst, ◌+◌, ◌∙◌, take}
use Rattle.std.specs.Prelude.{option_map}
use Rattle.vx_types.specs.Seen.{typ}
use Rattle.vx_types.specs.Value.{variant_of}
use Rattle.vx_scalars.specs.Seen.{value_of}
use Rattle.vx_scalars.specs.Told.{Typed}
use Rattle.vx_rows.specs.Merging.{AreNamed, given_at, listed, raw_of}
use Rattle.vx_rows.specs.declared.named_variants.NamedVariants.{NamedVariants}
use Rattle.vx_rows.proofs.Fieldwise.{given_none, given_some, ok_of}
use Rattle.vx_rows.proofs.Merged.{all_fields, joined_fits, joined_is, step_on, step_past}
use Rattle.vx_rows.proofs.merging.+merging.Goals as goal
use Rattle.vx_rows.proofs.merging.+merging.Goals.{push_given-in-Some+in_ok-scalar-in-Some+in_ok-push-in-Some, push_given-in-None}

pub joined-into_scalar-requires : goal.joined-into_scalar-requires
joined-into_scalar-requires t c =
    let x = raw_of c.args.typed in
    let r = raw_of c.args.raw in
    let named = ok_of c.push_others.result c.in_ok-push_others.field-0 _ (c.push_others.ensures.ok (listed (given_at x r) x.names) c.in_ok-push_given.ensures.ok) c.in_ok-push_others.was in
    (all_fields x r, named, joined_fits x r c.requires.typed c.requires.raw)

pub joined-returns-clause-ok : goal.joined-returns-clause-ok
joined-returns-clause-ok t c =
    let x = raw_of c.args.typed in
    let r = raw_of c.args.raw in
    let named = ok_of c.push_others.result c.in_ok-push_others.field-0 _ (c.push_others.ensures.ok (listed (given_at x r) x.names) c.in_ok-push_given.ensures.ok) c.in_ok-push_others.was in
    joined_is x r c.requires.typed ∙ sym (ap (λ (s : Typed). variant_of s.dtype s.value) (c.into_scalar.ensures (all_fields x r) named))

pub push_given-loop-name-preserved : goal.push_given-loop-name-preserved
push_given-loop-name-preserved t c =
    let x = raw_of c.args.typed in
    let r = raw_of c.args.raw in
    let ns = c.as_slice-name-items.result.now in
    let i = c.loop-name.name-index in
    let n = c.name-item.result in
    elim c.match-field_in.branch [
      | push_given-in-Some+in_ok-scalar-in-Some+in_ok-push-in-Some w ↦
          let e = ap (λ o. option_map (λ f. (typ f.0.now, value_of f.1.now)) o) (sym w.in-Some.is) ∙ c.field_in.ensures.found in
          let s = w.in_ok-scalar-in-Some.scalar in
          let z = given_some x r n (typ w.in-Some.dtype.now) (value_of w.in-Some.value.now) (option_map raw_of w.structure_at.result) (variant_of s.dtype s.value) e w.structure_at.ensures.found w.in_ok-scalar-in-Some.ensures.ok in
          let p = ok_of w.push.result w.in_ok-push-in-Some.field-0 _ (w.push.ensures.ok (listed (given_at x r) (take i ns)) c.loop-name.invariant) w.in_ok-push-in-Some.was in
          subst (λ (f : NamedVariants). AreNamed f (listed (given_at x r) (take (i + 1) ns))) (sym w.fields-is)
          (step_on (given_at x r) ns i n [] w.push.new.self (Some (variant_of s.dtype s.value)) c.loop-name-test.true c.name-item.is z p)
      | push_given-in-None w ↦
          let e = ap (λ o. option_map (λ f. (typ f.0.now, value_of f.1.now)) o) (sym w.in-None.is) ∙ c.field_in.ensures.found in
          subst (λ (f : NamedVariants). AreNamed f (listed (given_at x r) (take (i + 1) ns))) (sym w.fields-is)
          (step_past (given_at x r) ns i n [] c.loop-name.fields c.loop-name-test.true c.name-item.is (given_none x r n e) c.loop-name.invariant)
    ]
