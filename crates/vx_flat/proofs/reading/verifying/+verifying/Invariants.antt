use Rattle.std.proofs.Common.{◌≡◌, ◌+◌, ◌*◌, ◌≤◌, drop}
use Rattle.vx_flat.specs.Places.{are_inline}
use Rattle.vx_flat.proofs.FieldsLoop.{FieldsSoFar}
use Rattle.vx_flat.specs.Weight.{table_weight}
use Rattle.vx_flat.specs.Reading.{table_shown}
use Rattle.vx_flat.proofs.Each.{EachSoFar}
use Rattle.vx_flat.proofs.reading.verifying.+verifying.Given as goal

abbrev pub decreases-verify_table : goal.decreases-verify_table
decreases-verify_table g l = 6 * l.levels

abbrev pub decreases-verify_each_table : goal.decreases-verify_each_table
decreases-verify_each_table g l = 6 * l.levels + 1

abbrev pub decreases-verify_tables : goal.decreases-verify_tables
decreases-verify_tables g l = 6 * l.levels + 2

abbrev pub decreases-verify_member : goal.decreases-verify_member
decreases-verify_member g l = 6 * l.levels + 1

abbrev pub decreases-verify_union : goal.decreases-verify_union
decreases-verify_union g l = 6 * l.levels + 3

abbrev pub decreases-verify_present : goal.decreases-verify_present
decreases-verify_present g l = 6 * l.levels + 3

abbrev pub decreases-verify_field : goal.decreases-verify_field
decreases-verify_field g l = 6 * l.levels + 4

abbrev pub decreases-verify_fields : goal.decreases-verify_fields
decreases-verify_fields g l = 6 * l.levels + 5

abbrev pub invariant-verify_each_table-loop : goal.invariant-verify_each_table-loop
invariant-verify_each_table-loop g l =
    (l.at ≡ l.place + 4 * l.counter)
    × EachSoFar l.message (λ q. table_shown g.K.TableKind.schema l.message q l.table)
    (λ q. table_weight g.K.TableKind.schema l.message q l.table) l.fn.budget l.levels l.place l.n l.budget l.at l.counter
    × (l.steps + l.budget.tables ≡ l.fn.steps + l.fn.budget.tables)

abbrev pub invariant-verify_fields-loop-field : goal.invariant-verify_fields-loop-field
invariant-verify_fields-loop-field g l = record {
  few : l.entry ≤ 2 * l.field-index;
  inline : are_inline l.message l.place l.fields (drop l.field-index l.kinds) l.entry ≡ are_inline l.message l.place l.fields l.kinds 0;
  so_far : FieldsSoFar g.K.TableKind.schema l.message l.place l.fields l.kinds l.fn.budget l.levels l.budget
      (drop l.field-index l.kinds) l.entry;
  exact : l.steps + l.budget.tables ≡ l.fn.steps + l.fn.budget.tables;
}
