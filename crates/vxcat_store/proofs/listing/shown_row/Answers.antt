use Rattle.vx_types.specs.Seen.{typ}
use Rattle.vx_rows.specs.Plain.{plain_value}
use Rattle.vxcat_store.proofs.Listings.{row_shown}
use Rattle.vxcat_store.proofs.listing.shown_row.Goals as goal

pub returns-in-Ok : goal.returns-in-Ok
returns-in-Ok c =
    row_shown c.args.array.now c.args.i (plain_value c.in-Ok.value) (typ c.dtype.result.now) c.row_text.result c.in-Ok.ensures.row c.dtype.ensures.dtype c.in-Ok.ensures.fits c.row_text.ensures
