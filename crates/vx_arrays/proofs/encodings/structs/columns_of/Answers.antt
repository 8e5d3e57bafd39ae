-- The columns stand after a validity, where there is one child more than fields.
use Rattle.std.proofs.Common.{◌≡◌, ◌-◌, length, take, drop, arith}
use Rattle.vx_trees.specs.Rose.{count, roses_of}
use Rattle.vx_trees.proofs.Lists.{count-roses_of}
use Rattle.vx_types.specs.Seen.{typ}
use Rattle.vx_array_tree.specs.Encodings.Structs.{width_of}
use Rattle.vx_array_tree.specs.Tree.{Tree}
use Rattle.vx_arrays.proofs.Fielded.{after_length, columns_front, columns_whole}
use Rattle.vx_arrays.proofs.Split.{first_and_after, first_of, first_is}
use Rattle.vx_arrays.proofs.encodings.structs.columns_of.Goals as goal

pub returns-then-fields-width_of : goal.returns-then-fields-width_of
returns-then-fields-width_of c =
    let ts = c.args.children.now in
    let us = take (length ts - 1) (drop 1 ts) in
    let first : Tree = first_of ts c.in-len1-up.len_at_least in
    let k : count (roses_of us) ≡ width_of (typ c.args.dtype.now) = omega (arith, c.if-fields-width_of.true, c.width_of.ensures, count-roses_of us, after_length ts c.in-len1-up.len_at_least) in
    columns_front (typ c.args.dtype.now) first (roses_of us) (roses_of ts) (first_and_after ts first c.in-len1-up.len_at_least (first_is ts c.in-len1-up.len_at_least)) k

pub returns-else-fields-width_of : goal.returns-else-fields-width_of
returns-else-fields-width_of c =
    let ts = c.args.children.now in
    let us = take (length ts - 1) (drop 1 ts) in
    let first : Tree = first_of ts c.in-len1-up.len_at_least in
    columns_whole (typ c.args.dtype.now) first (roses_of us) (roses_of ts) (first_and_after ts first c.in-len1-up.len_at_least (first_is ts c.in-len1-up.len_at_least))
    (λ q. c.if-fields-width_of.false (omega (arith, q, c.width_of.ensures, count-roses_of us, after_length ts c.in-len1-up.len_at_least)))
