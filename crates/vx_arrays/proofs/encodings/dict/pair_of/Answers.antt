-- Two arrays are the first and the second.
use Rattle.vx_arrays.proofs.Dictionaries.{two_items, other_items}
use Rattle.vx_arrays.proofs.encodings.dict.pair_of.Goals as goal

pub returns-clause-some : goal.returns-clause-some
returns-clause-some c = two_items c.args.children.now c.index-children-0.result c.index-children-1.result c.if-children-ne2.false c.index-children-0.is c.index-children-1.is

pub returns-then-children-ne2-clause-none : goal.returns-then-children-ne2-clause-none
returns-then-children-ne2-clause-none c = other_items c.args.children.now c.if-children-ne2.true
