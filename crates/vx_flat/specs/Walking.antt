-- What the writer of a value has written, and why it stops.
use Rattle.std.specs.Prelude.{◌≤◌, ◌^◌, length}
use Rattle.vx_flat.specs.declared.builder.piece.LinkKind.{LinkKind}
use Rattle.vx_flat.specs.declared.builder.piece.LinkKind.TheVariants as link
use Rattle.vx_flat.specs.declared.error.FlatError.{FlatError}
use Rattle.vx_flat.specs.declared.error.FlatError.TheVariants.{OutOfMemory, BadTable, TableLimit}
use Rattle.vx_flat.specs.declared.error.FlatError.TheVariants.{MessageTooLong}
use Rattle.vx_flat.specs.declared.schema.FieldKind.{FieldKind}
use Rattle.vx_flat.specs.declared.schema.FieldKind.TheVariants.{Text, Table}
use Rattle.vx_flat.specs.Building.{Built}

-- What a field's offset points to.
abbrev pub link_kind : FieldKind → LinkKind
link_kind Text = link.Text
link_kind (Table t) = link.Table
link_kind _ = link.Vector

-- Why blocks could not all be written; all is the builder after all of them. Allocation failure has
-- no cause in them.
abbrev pub IsCut : Built → FlatError → Type 0
IsCut all OutOfMemory = Unit {0}
IsCut all MessageTooLong = 2 ^ 31 ≤ length all.bytes
IsCut all BadTable = ⊥
IsCut all TableLimit = ⊥
