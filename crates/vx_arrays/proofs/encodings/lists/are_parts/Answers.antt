-- Parts are of the shape where the elements are of the type, and the offsets and what stands after are right.
use Rattle.std.proofs.Common.{Some, refl, ◌∙◌, ap, sym}
use Rattle.std.proofs.lemmas.Bool.{false≢true, iff_false}
use Rattle.std.specs.Prelude.{option_map}
use Rattle.std.proofs.lemmas.Option.{same_Some}
use Rattle.vx_trees.specs.Rose.{label, roses_of}
use Rattle.vx_types.specs.Seen.{typ}
use Rattle.vx_arrays.proofs.Listed.{listed_decide, shaped_listed, after_type}
use Rattle.vx_arrays.proofs.encodings.lists.are_parts.Goals as goal

pub returns-then-not-is_of_type : goal.returns-then-not-is_of_type
returns-then-not-is_of_type c = (
  λ x. absurd (false≢true x),
  λ s. absurd (iff_false c.is_of_type.ensures c.if-not-is_of_type.true
      (sym (same_Some (typ c.in-Some.kind.now) (label c.args.elements.now).dtype
      (ap (λ o. option_map (λ d. typ d.now) o) (sym c.in-Some.is) ∙ c.element_type.ensures ∙ (shaped_listed (typ c.args.dtype.now) c.args.len _ _ _ s).element)))),
)

pub returns-then-not-are_counted : goal.returns-then-not-are_counted
returns-then-not-are_counted c = (
  λ x. absurd (false≢true x),
  λ s. let l = shaped_listed (typ c.args.dtype.now) c.args.len _ _ _ s in absurd (false≢true (c.if-not-are_counted.ensures.all l.offsets l.counted)),
)

pub returns : goal.returns
returns c =
    let k = c.if-not-are_counted.ensures in
    listed_decide (typ c.args.dtype.now) c.args.len c.is_validity_after.result c.args.elements.now c.args.offsets.now (roses_of c.args.after.now)
    (sym c.element_type.ensures ∙ ap (λ o. option_map (λ d. typ d.now) o) c.in-Some.is ∙ ap (λ z. Some z) (sym (c.if-not-is_of_type.ensures.0 refl)))
    (k.kind refl) (k.counted refl) (k.few refl) (after_type _ c.args.len c.is_validity_after.result (typ c.args.dtype.now) (roses_of c.args.after.now) c.nullability.ensures c.is_validity_after.ensures)
