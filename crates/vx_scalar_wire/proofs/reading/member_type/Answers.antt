use Rattle.std.proofs.Common.{◌≡◌, ◌∙◌, sym, length, refl, arith}
use Rattle.vx_scalars.proofs.LawsOfLists.{member-index, member-nowhere}
use Rattle.vx_scalar_wire.proofs.reading.member_type.Goals as goal

pub returns-in-Some-clause-found : goal.returns-in-Some-clause-found
returns-in-Some-clause-found c =
    let v = c.args.variants.now in
    let u = c.tag_to_child_index.ensures.union in
    let as_many : length v.ids ≡ length v.types = omega (arith, u.tags, u.types) in
    member-index c.args.tag v.ids v.types c.as_slice.result.now c.in-Some.index c.index-as_slice-index.result
    (sym c.tag_to_child_index.ensures.index ∙ c.in-Some.is) as_many (c.as_slice.ensures ∙ c.variants.ensures) c.index-as_slice-index.is

pub returns-in-None-clause-none : goal.returns-in-None-clause-none
returns-in-None-clause-none c = let v = c.args.variants.now in (refl, member-nowhere c.args.tag v.ids v.types (sym c.tag_to_child_index.ensures.index ∙ c.in-None.is))
