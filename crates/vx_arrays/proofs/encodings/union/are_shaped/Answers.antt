-- Arrays are the children of unions where the first is the tags, and the others are the members.
use Rattle.std.proofs.Common.{◌≡◌, ◌-◌, ◌∙◌, List, IsTrue, subst, length, take, drop}
use Rattle.std.specs.Prelude.{◌↔◌}
use Rattle.vx_trees.specs.Rose.{roses_of}
use Rattle.vx_types.specs.Seen.{typs}
use Rattle.vx_types.specs.Typ.{Typ}
use Rattle.vx_array_tree.specs.Place.{places_at}
use Rattle.vx_array_tree.specs.Tree.{places}
use Rattle.vx_arrays.proofs.Split.{first_and_after}
use Rattle.vx_arrays.proofs.Tagged.{without_tags, members_decide, other_tags}
use Rattle.vx_arrays.proofs.encodings.union.are_shaped.Goals as goal

pub returns-in-empty : goal.returns-in-empty
returns-in-empty c = without_tags c.args.members.now c.args.nullability c.args.len c.args.children.now c.in-empty.len_below

pub returns-then-are_tags : goal.returns-then-are_tags
returns-then-are_tags c =
    let v = c.args.members.now in
    let ts = c.args.children.now in
    let us = take (length ts - 1) (drop 1 ts) in
    let t = c.tags-item.result in
    let e : typs c.as_slice.result.now ≡ v.types = c.as_slice.ensures ∙ c.variants.ensures in
    members_decide v c.args.nullability c.args.len (roses_of ts) t (roses_of us) (first_and_after ts t c.in-len1-up.len_at_least c.tags-item.is) c.are_columns.result (c.are_tags.ensures.0 c.if-are_tags.true)
    (subst (λ (ds : List Typ). IsTrue c.are_columns.result ↔ (places (roses_of us) ≡ places_at (roses_of ds) c.args.len)) e c.are_columns.ensures)

pub returns-else-are_tags : goal.returns-else-are_tags
returns-else-are_tags c =
    let ts = c.args.children.now in
    let us = take (length ts - 1) (drop 1 ts) in
    let t = c.tags-item.result in
    other_tags c.args.members.now c.args.nullability c.args.len (roses_of ts) t (roses_of us) (first_and_after ts t c.in-len1-up.len_at_least c.tags-item.is) c.are_tags.result c.are_tags.ensures c.if-are_tags.false
