use Rattle.std.proofs.Common.{◌<◌, length, arith, ap}
use Rattle.vx_trees.specs.Rose.{below, count}
use Rattle.vx_trees.proofs.Lists.{count-roses_of}
use Rattle.vx_serde.proofs.TakenBelow.{item_below}
use Rattle.vx_serde.proofs.taken.borrowed_child.Goals as goal

pub item_at-requires : goal.item_at-requires
item_at-requires c = omega (arith, c.requires, count-roses_of c.children-children.result.now, ap (λ z. count z) c.children-children.ensures.children)

pub returns : goal.returns
returns c =
    let xs = c.children-children.result.now in
    let lt : c.args.i < length xs = omega (arith, c.requires, count-roses_of xs, ap (λ z. count z) c.children-children.ensures.children) in
    item_below xs (below c.args.array.now) c.args.i _ c.children-children.ensures.children lt c.item_at.ensures
