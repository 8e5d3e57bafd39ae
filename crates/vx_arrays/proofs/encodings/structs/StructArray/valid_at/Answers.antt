-- A validity stands in front of the columns, where there is one child more than fields.
use Rattle.std.proofs.Common.{◌≡◌, ◌-◌, Option, Some, true, Bool, sym, ap, subst, length, take, drop, arith}
use Rattle.vx_trees.specs.Rose.{count, label, roses_of}
use Rattle.vx_trees.proofs.Lists.{count-roses_of}
use Rattle.vx_types.specs.Seen.{typ}
use Rattle.vx_array_tree.specs.Body as B
use Rattle.vx_array_tree.specs.Encodings.Structs.{has_validity, structure_valid, width_of}
use Rattle.vx_array_tree.specs.Place.{Place}
use Rattle.vx_array_tree.specs.Sound.{IsSoundNode}
use Rattle.vx_array_tree.specs.Tree.{Trees, rows_below, untold}
use Rattle.vx_arrays.proofs.Fielded.{after_length, front_flags, valid_front, valid_after}
use Rattle.vx_arrays.proofs.Split.{first_and_after}
use Rattle.vx_arrays.proofs.encodings.structs.StructArray.valid_at.Goals as goal

pub flag_at-requires-clause-inside : goal.flag_at-requires-clause-inside
flag_at-requires-clause-inside c =
    let ts = c.args.children.now in
    let us = take (length ts - 1) (drop 1 ts) in
    let v = c.validity-item.result in
    let e = first_and_after ts v c.in-len1-up.len_at_least c.validity-item.is in
    let k : count (roses_of us) ≡ width_of (typ c.args.dtype.now) = omega (arith, c.if-fields-width_of.true, c.width_of.ensures, count-roses_of us, after_length ts c.in-len1-up.len_at_least) in
    let p = front_flags (typ c.args.dtype.now) c.args.len v (roses_of us) (subst (λ (zs : Trees). IsSoundNode (untold (typ c.args.dtype.now) c.args.len B.struct) zs) e c.requires.sound) k in
    let l : (label v).len ≡ c.args.len = ap (λ (z : Place). z.len) p in
    omega (arith, l, c.requires.inside)

pub flag_at-requires-clause-flags : goal.flag_at-requires-clause-flags
flag_at-requires-clause-flags c =
    let ts = c.args.children.now in
    let us = take (length ts - 1) (drop 1 ts) in
    let v = c.validity-item.result in
    let e = first_and_after ts v c.in-len1-up.len_at_least c.validity-item.is in
    let k : count (roses_of us) ≡ width_of (typ c.args.dtype.now) = omega (arith, c.if-fields-width_of.true, c.width_of.ensures, count-roses_of us, after_length ts c.in-len1-up.len_at_least) in
    let p = front_flags (typ c.args.dtype.now) c.args.len v (roses_of us) (subst (λ (zs : Trees). IsSoundNode (untold (typ c.args.dtype.now) c.args.len B.struct) zs) e c.requires.sound) k in
    ap (λ (z : Place). z.dtype) p

pub returns-then-fields-width_of : goal.returns-then-fields-width_of
returns-then-fields-width_of c =
    let ts = c.args.children.now in
    let us = take (length ts - 1) (drop 1 ts) in
    let v = c.validity-item.result in
    let e = first_and_after ts v c.in-len1-up.len_at_least c.validity-item.is in
    let k : count (roses_of us) ≡ width_of (typ c.args.dtype.now) = omega (arith, c.if-fields-width_of.true, c.width_of.ensures, count-roses_of us, after_length ts c.in-len1-up.len_at_least) in
    subst (λ (zs : Trees). c.flag_at.result ≡ structure_valid (has_validity (typ c.args.dtype.now) (length (rows_below zs))) (rows_below zs) c.args.index) (sym e)
    (valid_front (typ c.args.dtype.now) v (roses_of us) c.args.index c.flag_at.result k c.flag_at.ensures)

pub returns-else-fields-width_of : goal.returns-else-fields-width_of
returns-else-fields-width_of c =
    let ts = c.args.children.now in
    let us = take (length ts - 1) (drop 1 ts) in
    let v = c.validity-item.result in
    let e = first_and_after ts v c.in-len1-up.len_at_least c.validity-item.is in
    let there : Option Bool = Some true in
    subst (λ (zs : Trees). there ≡ structure_valid (has_validity (typ c.args.dtype.now) (length (rows_below zs))) (rows_below zs) c.args.index) (sym e)
    (valid_after (typ c.args.dtype.now) v (roses_of us) c.args.index (λ q. c.if-fields-width_of.false (omega (arith, q, c.width_of.ensures, count-roses_of us, after_length ts c.in-len1-up.len_at_least))))
