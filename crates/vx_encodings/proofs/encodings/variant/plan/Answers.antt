use Rattle.std.proofs.Common.{rules, ◌≡◌, None, option_map}
use Rattle.vx_types.specs.Seen.{typ}
use Rattle.vx_array_tree.specs.Encodings.Variants as Variants
use Rattle.vx_encodings.proofs.VariantSteps.{variants_unplanned, variants_planned}
use Rattle.vx_encodings.proofs.encodings.variant.plan.Goals as goal

pub returns-in_default : goal.returns-in_default
returns-in_default g c =
    let s = option_map typ c.in_ok-shredded.shredded in
    let none : Variants.plan (typ c.args.head.now.dtype) c.args.head.now.len s c.args.head.now.nchildren ≡ None = search rules in
    record { plan = tt; err = variants_unplanned _ c.args.head.now _ s c.as_slice.ensures c.in_ok-shredded.ensures.ok none }

pub returns-clause-plan : goal.returns-clause-plan
returns-clause-plan g c =
    let s = option_map typ c.in_ok-shredded.shredded in
    variants_planned _ c.args.head.now c.plan_children.result _ s c.in-Variant.field-0 c.as_slice.ensures c.in_ok-shredded.ensures.ok c.in-Variant.is c.plan_children.ensures.plan
