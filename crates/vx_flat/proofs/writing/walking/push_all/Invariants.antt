use Rattle.std.proofs.Common.{◌≡◌, ◌++◌, drop}
use Rattle.vx_flat.specs.IsOf.{AreOf}
use Rattle.vx_flat.specs.Pieces.{entries}
use Rattle.vx_flat.specs.View.{views}
use Rattle.vx_flat.proofs.writing.walking.push_all.Given as goal

abbrev pub invariant-loop-i : goal.invariant-loop-i
invariant-loop-i g l = record {
  of_kinds : AreOf g.K.TableKind.schema (drop l.i l.kinds) (views (drop l.i l.values));
  whole : l.entries.items ++ entries (drop l.i l.kinds) (views (drop l.i l.values)) ≡ entries l.kinds (views l.values);
}
