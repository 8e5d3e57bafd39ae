use Rattle.std.proofs.Common.{[], refl}
use Rattle.vx_flat.specs.Pieces.{table_piece}
use Rattle.vx_flat.proofs.LawsOfLinks.{begun, ended}
use Rattle.vx_type_wire.proofs.writing.write_numbers.Goals as goal

pub returns-clause-written : goal.returns-clause-written
returns-clause-written c =
    let old = c.args.builder.now in
    let p = table_piece c.args.fields.now in
    let first = begun old c.table.new.self p p [] c.in_ok-table.ensures.written refl (c.requires.numbers old.count) in
    ended old p [] c.table.new.self first (c.in_ok-table.ensures.fits refl)
