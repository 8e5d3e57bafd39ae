use Rattle.std.proofs.Common.{◌≡◌, IsTrue, take}
use Rattle.vx_trees.specs.Rose.{roses_list}
use Rattle.vx_types.specs.Known.{ExtMeaning}
use Rattle.vx_registry.specs.Meaning.{arrays_meaning}
use Rattle.vx_serde.specs.contracts.taken.fill.{dyn-1-ghosts}
use Rattle.vx_serde.specs.Taking.{root_arrays, AreTaken, AreWithinLevels}
use Rattle.vx_serde.proofs.taken.+fill.Given as goal

-- Each level has room for one less.
abbrev pub decreases-fill : goal.decreases-fill
decreases-fill g l = l.room

-- The nodes so far are those of the arrays so far.
abbrev pub invariant-loop-i : goal.invariant-loop-i
invariant-loop-i g l = record {
  root : l.above.root ≡ l.initial.above.root;
  taken : (x : ExtMeaning) → x.unknown ≡ l.unknown → AreTaken (arrays_meaning (λ b. ((dyn-1-ghosts g.dyn-1).0.entry b.vtable).1.means b.value) l.arrays x) l.room (take l.i (roses_list (root_arrays l.initial.above.root))) l.above.children.items;
  within : AreWithinLevels l.room l.above.children.items;
  own : IsTrue l.above.own → l.above.children.items ≡ take l.i (roses_list (root_arrays l.initial.above.root));
}
