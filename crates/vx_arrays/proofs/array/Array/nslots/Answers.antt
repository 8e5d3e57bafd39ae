-- The slots are those of the root, which has as many children as stand below it.
use Rattle.std.proofs.Common.{◌≡◌, ◌∙◌, ap, length, sym}
use Rattle.vx_trees.specs.Rose.{below, count}
use Rattle.vx_trees.proofs.Lists.{count-roses_of}
use Rattle.vx_array_tree.specs.Tree.{Trees}
use Rattle.vx_arrays.specs.Slots.{slot_names}
use Rattle.vx_arrays.proofs.array.Array.nslots.Goals as goal

pub returns : goal.returns
returns c =
    let k : length c.children.result.now ≡ count (below c.args.self.now) = sym (count-roses_of c.children.result.now) ∙ ap (λ (ts : Trees). count ts) c.children.ensures.children in
    c.slots_of.ensures ∙ (λ i. length (slot_names (c.dtype.ensures.dtype i) (c.body.ensures i) (k i)))
