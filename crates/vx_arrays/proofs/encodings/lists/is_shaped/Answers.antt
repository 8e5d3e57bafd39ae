-- After the first of two arrays there is one more.
use Rattle.std.proofs.Common.{ap, arith}
use Rattle.vx_trees.specs.Rose.{count}
use Rattle.vx_trees.proofs.Lists.{count-roses_of}
use Rattle.vx_array_tree.specs.Tree.{Trees}
use Rattle.vx_arrays.proofs.encodings.lists.is_shaped.Goals as goal

pub split_first-requires-2 : goal.split_first-requires-2
split_first-requires-2 c =
    omega (arith, c.if-children-lt2.false, count-roses_of c.split_first.result.1.now, count-roses_of c.args.children.now, ap (λ (ts : Trees). count ts) c.split_first.ensures)
