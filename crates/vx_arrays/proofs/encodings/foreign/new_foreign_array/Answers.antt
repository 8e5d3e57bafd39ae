-- A foreign node is of the right shape over any children.
use Rattle.vx_trees.specs.Rose.{roses_of}
use Rattle.vx_types.specs.Seen.{typ}
use Rattle.vx_arrays.proofs.Controlled.{foreign_shaped}
use Rattle.vx_arrays.proofs.encodings.foreign.new_foreign_array.Goals as goal

pub from_parts-requires-clause-shaped : goal.from_parts-requires-clause-shaped
from_parts-requires-clause-shaped c = foreign_shaped (typ c.args.dtype) c.args.len _ (roses_of c.into_vec.result.items)
