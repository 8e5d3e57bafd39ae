-- Arrays are the children of structs where they are the columns, or where those stand after a validity.
use Rattle.std.proofs.Common.{◌≡◌, ◌-◌, ◌∙◌, List, IsTrue, refl, sym, ap, subst, length, take, drop}
use Rattle.std.specs.Prelude.{◌↔◌}
use Rattle.vx_trees.specs.Rose.{count, roses_of}
use Rattle.vx_trees.proofs.Lists.{count-roses_of}
use Rattle.vx_types.specs.Seen.{typs}
use Rattle.vx_types.specs.Typ.{Typ}
use Rattle.vx_array_tree.specs.Place.{places_at}
use Rattle.vx_array_tree.specs.Tree.{places}
use Rattle.vx_types.proofs.LawsOfTypes.{typs-length}
use Rattle.vx_arrays.proofs.Columns.{none_right, front_and_columns, without_front}
use Rattle.vx_arrays.proofs.Fielded.{columns_decide}
use Rattle.vx_arrays.proofs.Split.{first_and_after}
use Rattle.vx_arrays.proofs.encodings.structs.are_shaped.Goals as goal

pub returns-then-children-types : goal.returns-then-children-types
returns-then-children-types c =
    let f = c.args.fields.now in
    let ts = c.args.children.now in
    let e : typs c.as_slice-types.result.now ≡ f.types = c.as_slice-types.ensures ∙ c.fields.ensures in
    let k : count (roses_of ts) ≡ length f.types =
    count-roses_of ts ∙ c.if-children-types.true ∙ sym (typs-length c.as_slice-types.result.now) ∙ ap (λ (ds : List Typ). length ds) e in
    columns_decide f c.args.nullability c.args.len (roses_of ts) c.are_columns.result (length f.types) refl k
    (subst (λ (ds : List Typ). IsTrue c.are_columns.result ↔ (places (roses_of ts) ≡ places_at (roses_of ds) c.args.len)) e c.are_columns.ensures)

pub returns-in-empty : goal.returns-in-empty
returns-in-empty c =
    let f = c.args.fields.now in
    let e : typs c.as_slice-types.result.now ≡ f.types = c.as_slice-types.ensures ∙ c.fields.ensures in
    none_right f c.args.nullability c.args.len c.args.children.now c.in-empty.len_below
    (λ q. c.if-children-types.false (q ∙ sym (ap (λ (ds : List Typ). length ds) e) ∙ typs-length c.as_slice-types.result.now))

pub returns-then-is_front : goal.returns-then-is_front
returns-then-is_front c =
    let f = c.args.fields.now in
    let ts = c.args.children.now in
    let us = take (length ts - 1) (drop 1 ts) in
    let v = c.validity-item.result in
    let e : typs c.as_slice-types.result.now ≡ f.types = c.as_slice-types.ensures ∙ c.fields.ensures in
    let q = first_and_after ts v c.in-len1-up.len_at_least c.validity-item.is in
    front_and_columns f c.args.nullability c.args.len (roses_of ts) v (roses_of us) c.are_columns-then-is_front.result q
    (λ j. c.if-children-types.false (sym (count-roses_of ts) ∙ ap (λ zs. count zs) q ∙ j ∙ sym (ap (λ (ds : List Typ). length ds) e) ∙ typs-length c.as_slice-types.result.now))
    (c.is_front.ensures.0 c.if-is_front.true)
    (subst (λ (ds : List Typ). IsTrue c.are_columns-then-is_front.result ↔ (places (roses_of us) ≡ places_at (roses_of ds) c.args.len)) e c.are_columns-then-is_front.ensures)

pub returns-else-is_front : goal.returns-else-is_front
returns-else-is_front c =
    let f = c.args.fields.now in
    let ts = c.args.children.now in
    let us = take (length ts - 1) (drop 1 ts) in
    let v = c.validity-item.result in
    let e : typs c.as_slice-types.result.now ≡ f.types = c.as_slice-types.ensures ∙ c.fields.ensures in
    let q = first_and_after ts v c.in-len1-up.len_at_least c.validity-item.is in
    without_front f c.args.nullability c.args.len (roses_of ts) v (roses_of us) c.is_front.result q
    (λ j. c.if-children-types.false (sym (count-roses_of ts) ∙ ap (λ zs. count zs) q ∙ j ∙ sym (ap (λ (ds : List Typ). length ds) e) ∙ typs-length c.as_slice-types.result.now))
    c.is_front.ensures c.if-is_front.false
