-- The row is the one of the member that the tag names, under the tag.
use Rattle.std.proofs.Common.{option_map, sym, ap, ◌∙◌}
use Rattle.vx_trees.specs.Rose.{roses_of}
use Rattle.vx_types.specs.Seen.{typ}
use Rattle.vx_types.specs.Fits.{member}
use Rattle.vx_arrays.proofs.Tagged.{no_member, tagged_value, tagged_cells, tagged_there, tagged_smaller}
use Rattle.vx_arrays.proofs.encodings.union.tagged_at.Goals as goal

pub unreachable-requires-in-None-named : goal.unreachable-requires-in-None-named
unreachable-requires-in-None-named c =
    no_member (typ c.args.dtype.now) c.args.len (roses_of c.args.children.now) (roses_of c.split_first.result.1.now) c.split_first.result.0.now c.split_first.ensures c.requires.sound c.args.index c.requires.inside c.requires.there
    c.in-Some.number (sym c.in-Some.is ∙ c.natural_at.ensures)
    (sym (ap (λ o. option_map (λ m. m.1.now) o) c.in-None-named.is) ∙ c.named.ensures.member ∙ ap (λ ids. member c.in-Some.number ids (roses_of c.split_first.result.1.now)) c.ids_of.ensures)

pub returns-clause-value : goal.returns-clause-value
returns-clause-value c =
    tagged_value (typ c.args.dtype.now) c.args.len (roses_of c.args.children.now) (roses_of c.split_first.result.1.now) c.split_first.result.0.now c.split_first.ensures c.requires.sound c.args.index c.requires.inside c.requires.there
    c.in-Some.number (sym c.in-Some.is ∙ c.natural_at.ensures) c.in-Some-named.tag c.in-Some-named.array.now c.in-Some-named.ensures.tag
    (c.in-Some-named.ensures.member ∙ ap (λ ids. member c.in-Some.number ids (roses_of c.split_first.result.1.now)) c.ids_of.ensures)

pub returns-clause-cells : goal.returns-clause-cells
returns-clause-cells c =
    tagged_cells (typ c.args.dtype.now) c.args.len (roses_of c.args.children.now) (roses_of c.split_first.result.1.now) c.split_first.result.0.now c.split_first.ensures c.requires.sound c.args.index c.requires.inside c.requires.there
    c.in-Some.number (sym c.in-Some.is ∙ c.natural_at.ensures) c.in-Some-named.tag c.in-Some-named.array.now c.in-Some-named.ensures.tag
    (c.in-Some-named.ensures.member ∙ ap (λ ids. member c.in-Some.number ids (roses_of c.split_first.result.1.now)) c.ids_of.ensures)

pub returns-clause-there : goal.returns-clause-there
returns-clause-there c =
    tagged_there (typ c.args.dtype.now) c.args.len (roses_of c.args.children.now) (roses_of c.split_first.result.1.now) c.split_first.result.0.now c.split_first.ensures c.requires.sound c.args.index c.requires.inside c.requires.there
    c.in-Some.number (sym c.in-Some.is ∙ c.natural_at.ensures) c.in-Some-named.tag c.in-Some-named.array.now c.in-Some-named.ensures.tag
    (c.in-Some-named.ensures.member ∙ ap (λ ids. member c.in-Some.number ids (roses_of c.split_first.result.1.now)) c.ids_of.ensures)

pub returns-clause-smaller : goal.returns-clause-smaller
returns-clause-smaller c =
    tagged_smaller (typ c.args.dtype.now) c.args.len (roses_of c.args.children.now) (roses_of c.split_first.result.1.now) c.split_first.result.0.now c.split_first.ensures c.requires.sound c.args.index c.requires.inside c.requires.there
    c.in-Some.number (sym c.in-Some.is ∙ c.natural_at.ensures) c.in-Some-named.tag c.in-Some-named.array.now c.in-Some-named.ensures.tag
    (c.in-Some-named.ensures.member ∙ ap (λ ids. member c.in-Some.number ids (roses_of c.split_first.result.1.now)) c.ids_of.ensures)
