-- What the writer of a file's columns answers.
use Rattle.std.specs.Prelude.{ℕ, ◌≡◌, List}
use Rattle.vx_buffer.specs.Joined.{joined}
use Rattle.vx_array_tree.specs.Tree.{Tree}
use Rattle.vx_wire_tree.specs.Session.{SessionMeaning}
use Rattle.vx_serialized.specs.Refusals.{wire_error}
use Rattle.vx_file.specs.declared.error.FileError.{FileError}
use Rattle.vx_file.specs.declared.error.FileError.TheVariants.{OutOfMemory, Wire}
use Rattle.vx_file.specs.declared.written_columns.ColumnsWritten.{ColumnsWritten}
use Rattle.vx_file.specs.Blobs.{ranges_from, all_blobs}
use Rattle.vx_file.specs.Causes.{RefusesColumns}
use Rattle.vx_file.specs.FooterReading.{ranges_of}
use Rattle.vx_file.specs.Written.{first_context, context_after_all, column_blobs}
use Rattle.vx_file.specs.WrittenColumns.{AreWrittenColumns}

-- The buffers are the blobs of columns, one after the other, with their ranges and the identifiers after them.
pub record AreColumnsMade (s : SessionMeaning) (ts : List Tree) (w : ColumnsWritten) : Type 0 where
  pub blobs : joined w.buffers ≡ all_blobs (column_blobs s ts 4 first_context)
  pub ranges_are : ranges_of w.ranges.items ≡ ranges_from 4 (column_blobs s ts 4 first_context)
  pub ids : w.ctx.ids ≡ (context_after_all s ts 4 first_context).ids
  pub written : AreWrittenColumns s ts 4 first_context

-- Why columns are not written: by the refusal.
abbrev pub RefusesMaking : SessionMeaning → List Tree → FileError → Type 0
RefusesMaking s ts OutOfMemory = Unit {0}
RefusesMaking s ts (Wire e) = RefusesColumns s (wire_error e) ts 4 first_context
RefusesMaking s ts _ = ⊥
