-- By what the blob of the column spells.
use Rattle.std.proofs.Common.{ℕ, ◌≡◌, ◌+◌, List, Some, sym, ap, ◌∙◌}
use Rattle.std.specs.Prelude.{slice_get}
use Rattle.vx_types.specs.Seen.{typ}
use Rattle.vx_types.specs.Typ.{Typ}
use Rattle.vx_file.specs.FooterReading.{range_of}
use Rattle.vx_file.specs.Shows.{field_types}
use Rattle.vx_file.proofs.LoadedColumns.{range_ends, taken_at, column_picked, never_bad, bad_column}
use Rattle.vx_file.proofs.column_file.ColumnFile.load_column.Goals as goal

pub load_range-requires : goal.load_range-requires
load_range-requires g c =
    range_ends (g.R.Ranges.state c.args.ranges.now).size c.args.start c.args.self.now.ranges c.args.column (range_of c.column_range-range.result) c.requires c.column_range-range.ensures

pub returns-in-Ok-clause-picked : goal.returns-in-Ok-clause-picked
returns-in-Ok-clause-picked g c =
    let type_is : (fields : List Typ) → field_types c.args.self.now.dtype ≡ Some fields → slice_get fields c.args.column ≡ Some (typ c.column_type-dtype.result.now)
    = λ fields e. c.column_type-dtype.ensures fields (ap (λ d. field_types d) c.dtype.ensures.dtype ∙ e) in
    column_picked _ c.args.self.now c.args.start c.args.column (range_of c.column_range-range.result) (typ c.column_type-dtype.result.now) c.ids.result.now c.rows.result
    c.column_range-range.ensures type_is c.ids.ensures c.rows.ensures (g.R.Ranges.state c.args.ranges.now) c.in_ok-blob.blob c.in_ok-blob.ensures.bytes c.in-Ok.array c.in-Ok.ensures.complete

pub returns-in-Ok-clause-taken : goal.returns-in-Ok-clause-taken
returns-in-Ok-clause-taken g c =
    taken_at c.args.self.now.ranges c.args.column (range_of c.column_range-range.result) _ _ c.column_range-range.ensures c.in_ok-blob.ensures.taken

pub returns-in-Some-clause-complete : goal.returns-in-Some-clause-complete
returns-in-Some-clause-complete g c = λ ok bytes own t tells stand shows spells within.
    let type_is : (fields : List Typ) → field_types c.args.self.now.dtype ≡ Some fields → slice_get fields c.args.column ≡ Some (typ c.column_type-dtype.result.now)
    = λ fields e. c.column_type-dtype.ensures fields (ap (λ d. field_types d) c.dtype.ensures.dtype ∙ e) in
    never_bad _ c.args.self.now c.args.start c.args.column (range_of c.column_range-range.result) (typ c.column_type-dtype.result.now) c.ids.result.now c.rows.result
    c.column_range-range.ensures type_is c.ids.ensures c.rows.ensures (g.R.Ranges.state c.args.ranges.now) c.in_ok-blob.blob c.in_ok-blob.ensures.bytes c.in-Err.e c.in-Some.refusal
    c.in-Some.ensures.some c.in-Err.ensures.complete ok bytes own t tells stand shows spells

pub returns-in-Some-clause-cause : goal.returns-in-Some-clause-cause
returns-in-Some-clause-cause g c =
    let type_is : (fields : List Typ) → field_types c.args.self.now.dtype ≡ Some fields → slice_get fields c.args.column ≡ Some (typ c.column_type-dtype.result.now)
    = λ fields e. c.column_type-dtype.ensures fields (ap (λ d. field_types d) c.dtype.ensures.dtype ∙ e) in
    bad_column _ c.args.self.now c.args.start c.args.column (range_of c.column_range-range.result) (typ c.column_type-dtype.result.now) c.ids.result.now c.rows.result
    c.column_range-range.ensures type_is c.ids.ensures c.rows.ensures (g.R.Ranges.state c.args.ranges.now) c.in_ok-blob.blob c.in_ok-blob.ensures.bytes c.in-Err.e c.in-Some.refusal (g.R.Ranges.state c.load_range.new.ranges)
    c.dtype.ensures.table c.in-Some.ensures.some c.in-Err.ensures.cause
