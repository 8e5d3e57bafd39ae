use Rattle.std.proofs.Common.{◌+◌, ◌*◌}
use Rattle.vx_trees.specs.Rose.{roses_of}
use Rattle.vx_trees.specs.Walks.{nodes, nodes_of}
use Rattle.vx_arrays.proofs.+naturals.Given as goal

-- A row is asked of the rows of arrays below.
abbrev pub decreases-array::Array::flag_at : goal.decreases-array::Array::flag_at
decreases-array::Array::flag_at l = 3 * nodes l.self.now

abbrev pub decreases-array::Array::natural_at : goal.decreases-array::Array::natural_at
decreases-array::Array::natural_at l = 3 * nodes l.self.now

abbrev pub decreases-encodings::primitive::PrimitiveData::natural_at : goal.decreases-encodings::primitive::PrimitiveData::natural_at
decreases-encodings::primitive::PrimitiveData::natural_at l = 3 * nodes_of (roses_of l.children.now) + 2

abbrev pub decreases-validity::validity_at : goal.decreases-validity::validity_at
decreases-validity::validity_at l = 3 * nodes_of (roses_of l.children.now) + 1
