use Rattle.std.proofs.Common.{◌+◌, ◌*◌, List, take}
use Rattle.std.specs.Fn.{FnReturnsAt}
use Rattle.vx_trees.specs.Rose.{roses_of}
use Rattle.vx_proto.specs.Value.{Value}
use Rattle.vx_type_wire.specs.Known.{ExtMeaning}
use Rattle.vx_types.specs.Seen.{typ, typs}
use Rattle.vx_scalar_wire.specs.Answers.{ReadsTypes}
use Rattle.vx_scalar_wire.specs.Reading.{EachReads, ReadsBy}
use Rattle.vx_scalar_wire.proofs.Gathered.{SoFar}
use Rattle.vx_scalar_wire.proofs.reading.+reading.Given as goal

abbrev pub decreases-value_in : goal.decreases-value_in
decreases-value_in g l = 8 * l.left

abbrev pub decreases-message_value : goal.decreases-message_value
decreases-message_value g l = 8 * l.left + 7

abbrev pub decreases-list_value : goal.decreases-list_value
decreases-list_value g l = 8 * l.left + 6

abbrev pub decreases-union_value : goal.decreases-union_value
decreases-union_value g l = 8 * l.left + 6

abbrev pub decreases-variant_value : goal.decreases-variant_value
decreases-variant_value g l = 8 * l.left + 6

abbrev pub decreases-parts_of : goal.decreases-parts_of
decreases-parts_of g l = 8 * l.left + 5

abbrev pub decreases-scalar_in : goal.decreases-scalar_in
decreases-scalar_in g l = 8 * l.left + 4

abbrev pub decreases-each_value : goal.decreases-each_value
decreases-each_value g l = 8 * l.left + 4

abbrev pub decreases-field_values : goal.decreases-field_values
decreases-field_values g l = 8 * l.left + 4

abbrev pub invariant-each_value-loop-i : goal.invariant-each_value-loop-i
invariant-each_value-loop-i g l =
    (s : ExtMeaning) → ReadsTypes (λ t r. FnReturnsAt g.F.Fn l.types t r) s → (ws : List Value) × SoFar l.members l.i ws × EachReads s (roses_of l.values) (typ l.dtype) ws

abbrev pub invariant-field_values-loop-i : goal.invariant-field_values-loop-i
invariant-field_values-loop-i g l =
    (s : ExtMeaning) → ReadsTypes (λ t r. FnReturnsAt g.F.Fn l.types t r) s → (ws : List Value) × SoFar l.members l.i ws × ReadsBy s (roses_of l.values) (roses_of (typs (take l.i l.dtypes))) ws
