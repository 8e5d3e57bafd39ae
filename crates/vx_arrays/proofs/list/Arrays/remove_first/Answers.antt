use Rattle.std.proofs.Common.{◌∙◌, ap, arith}
use Rattle.vx_trees.specs.Rose.{count}
use Rattle.vx_trees.proofs.Lists.{count-roses_of}
use Rattle.vx_arrays.proofs.Firsts.{first_out, sound_without_first}
use Rattle.vx_arrays.proofs.list.Arrays.remove_first.Goals as goal

pub remove-requires : goal.remove-requires
remove-requires c = omega (arith, c.requires, count-roses_of c.self.inside.items.items, ap (λ ts. count ts) c.self.view_is)

pub invariant_of-self : goal.invariant_of-self
invariant_of-self c = sound_without_first c.self.inside.items.items c.remove.new.self.items c.self.invariant c.remove.ensures.items

pub returns : goal.returns
returns c = first_out c.self.inside.items.items c.remove.new.self.items c.remove.result c.remove.ensures.value c.remove.ensures.items (omega (arith, c.requires, count-roses_of c.self.inside.items.items, ap (λ ts. count ts) c.self.view_is)) ∙ c.self.view_is
