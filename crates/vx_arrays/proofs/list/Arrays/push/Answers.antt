use Rattle.std.proofs.Common.{◌∙◌, sym, ap, ◌++◌, ◌∷◌, []}
use Rattle.vx_trees.specs.Rose.{roses_list}
use Rattle.vx_trees.proofs.Lists.{roses_list-roses_of}
use Rattle.vx_trees.proofs.Holding.{everywhere_below-snoc}
use Rattle.vx_array_tree.specs.Sound.{IsSoundNode}
use Rattle.vx_arrays.proofs.list.Arrays.push.Goals as goal

pub invariant_of-self-2 : goal.invariant_of-self-2
invariant_of-self-2 c =
    everywhere_below-snoc IsSoundNode c.self.inside.items.items c.push.new.self.items c.args.array c.self.invariant c.len-rows.ensures.sound c.in_ok-push.ensures.items

pub returns-clause-ok : goal.returns-clause-ok
returns-clause-ok c =
    roses_list-roses_of c.push.new.self.items ∙ c.in_ok-push.ensures.items
    ∙ ap (λ ts. ts ++ c.args.array ∷ []) (sym (roses_list-roses_of c.self.inside.items.items) ∙ ap (λ ts. roses_list ts) c.self.view_is)
