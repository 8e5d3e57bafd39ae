use Rattle.std.proofs.Common.{arith}
use Rattle.vx_array_tree.specs.Tree.{rows_of}
use Rattle.vx_arrays.proofs.Rising.{offset_within}
use Rattle.vx_arrays.proofs.offsets.offset_at.Goals as goal

pub returns-clause-within : goal.returns-clause-within
returns-clause-within c = omega (arith, c.in-Some.ensures.value, offset_within (rows_of c.args.offsets.now) c.args.parts c.args.total c.args.index c.requires.offsets c.requires.inside)
