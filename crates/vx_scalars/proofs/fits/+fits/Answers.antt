use Rattle.std.proofs.Common.{◌≡◌, ◌↔◌, sym, ◌∙◌, subst, length, arith}
use Rattle.std.specs.Bool.{IsTrue}
use Rattle.vx_types.specs.Fits.{Fits}
use Rattle.vx_types.specs.Seen.{typ}
use Rattle.vx_types.specs.Value.{Value}
use Rattle.vx_scalars.proofs.LawsOfLists.{member-index, member-nowhere, member-fits, no-member}
use Rattle.vx_scalars.proofs.fits.+fits.Goals as goal

pub fits_member-returns-in-Some : goal.fits_member-returns-in-Some
fits_member-returns-in-Some t c =
    let v = c.in-Union.variants in
    let r = c.index-as_slice-index.result in
    let u = c.tag_to_child_index.ensures.union in
    let as_many : length v.ids ≡ length v.types = omega (arith, u.tags, u.types) in
    let found = member-index c.args.tag v.ids v.types c.as_slice.result.now c.in-Some.index r
    (sym c.tag_to_child_index.ensures.index ∙ c.in-Some.is) as_many (c.as_slice.ensures ∙ c.variants.ensures) c.index-as_slice-index.is in
    let fit : IsTrue c.fits.result ↔ Fits c.args.value.now (typ r) = subst (λ (w : Value). IsTrue c.fits.result ↔ Fits w (typ r)) c.get.ensures c.fits.ensures in
    rw c.in-Union.is (member-fits c.fits.result c.args.tag v.names v.ids c.in-Union.field-1 v.types (typ r) c.args.value.now found fit)

pub fits_member-returns-in-None : goal.fits_member-returns-in-None
fits_member-returns-in-None t c =
    let v = c.in-Union.variants in
    rw c.in-Union.is (no-member c.args.tag v.names v.ids c.in-Union.field-1 v.types c.args.value.now (member-nowhere c.args.tag v.ids v.types (sym c.tag_to_child_index.ensures.index ∙ c.in-None.is)))
