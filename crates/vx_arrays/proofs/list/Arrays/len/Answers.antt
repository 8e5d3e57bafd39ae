use Rattle.std.proofs.Common.{◌∙◌, sym, ap, length}
use Rattle.vx_trees.specs.Rose.{count}
use Rattle.vx_trees.proofs.Lists.{count-roses_of}
use Rattle.vx_arrays.proofs.list.Arrays.len.Goals as goal

pub returns : goal.returns
returns c =
    ap (λ ts. length ts) c.as_slice.ensures.value ∙ sym (count-roses_of c.self.inside.items.items) ∙ ap (λ ts. count ts) c.self.view_is
