use Rattle.std.proofs.Common.{◌+◌, ◌*◌, ◌∷◌, map, drop, length}
use Rattle.vx_flat.specs.declared.builder.piece.LinkKind.TheVariants as link
use Rattle.vx_flat.specs.Building.{with_rest}
use Rattle.vx_flat.specs.Pieces.{links_piece, fields_pieces, rows_pieces}
use Rattle.vx_flat.specs.View.{view, views, rows_from}
use Rattle.vx_flat.proofs.Sizes.{size_field, size_fields, size_rows}
use Rattle.vx_flat.proofs.Walking.{FieldsLeft, RowsLeft}
use Rattle.vx_flat.proofs.writing.walking.+blocks.Given as goal

abbrev pub invariant-write_fields-loop-i : goal.invariant-write_fields-loop-i
invariant-write_fields-loop-i g l =
    FieldsLeft g.K.TableKind.schema (drop l.i l.kinds) (views (drop l.i l.values)) l.builder
    (with_rest l.fn.builder (fields_pieces g.K.TableKind.schema l.kinds (views l.values)))

abbrev pub invariant-write_rows-loop-i : goal.invariant-write_rows-loop-i
invariant-write_rows-loop-i g l =
    RowsLeft g.K.TableKind.schema l.table (rows_from (map (λ r. views r.items) (drop l.i l.rows))) l.builder
    (with_rest l.fn.builder (links_piece link.Table (length l.rows)
    ∷ rows_pieces g.K.TableKind.schema l.table (rows_from (map (λ r. views r.items) l.rows))))

abbrev pub decreases-write_below : goal.decreases-write_below
decreases-write_below g l = 5 * size_field (view l.value.now)

abbrev pub decreases-write_fields : goal.decreases-write_fields
decreases-write_fields g l = 5 * size_fields (views l.values.now) + 1

abbrev pub decreases-write_table : goal.decreases-write_table
decreases-write_table g l = 5 * size_fields (views l.values.now) + 2

abbrev pub decreases-write_rows : goal.decreases-write_rows
decreases-write_rows g l = 5 * size_rows (rows_from (map (λ r. views r.items) l.rows.now)) + 3
