-- What is read of the buffer is read of the blob, whose bytes it has.
use Rattle.std.proofs.Common.{◌∙◌, sym}
use Rattle.vx_types.specs.Seen.{typ}
use Rattle.vx_file.proofs.Decoded.{column_read, blob_refused, column_as}
use Rattle.vx_file.proofs.decoding.decode_blob.Goals as goal

pub returns-in-Ok-read_blob-clause-spelled : goal.returns-in-Ok-read_blob-clause-spelled
returns-in-Ok-read_blob-clause-spelled g c =
    column_read c.in-Ok.buffer.bytes c.args.blob (c.in-Ok.ensures.bytes ∙ c.into_vec.ensures) c.args.ids.now (typ c.args.dtype.now) c.args.rows _ c.in-Ok-read_blob.array
    c.in-Ok-read_blob.ensures.within_limits c.in-Ok-read_blob.ensures.spelled

pub returns-in-Ok-read_blob-clause-complete : goal.returns-in-Ok-read_blob-clause-complete
returns-in-Ok-read_blob-clause-complete g c = λ ok t spells.
    let other = column_as c.in-Ok.buffer.bytes c.args.blob (c.in-Ok.ensures.bytes ∙ c.into_vec.ensures) c.args.ids.now (typ c.args.dtype.now) c.args.rows _ t spells in
    sym (c.in-Ok-read_blob.ensures.the_one t other.spelled)

pub returns-in-Err-read_blob-clause-cause : goal.returns-in-Err-read_blob-clause-cause
returns-in-Err-read_blob-clause-cause g c =
    blob_refused c.in-Ok.buffer.bytes c.args.blob (c.in-Ok.ensures.bytes ∙ c.into_vec.ensures) c.args.ids.now (typ c.args.dtype.now) c.args.rows _ c.in-Err-read_blob.e
    c.in-Err-read_blob.ensures.cause

pub returns-in-Err-read_blob-clause-complete : goal.returns-in-Err-read_blob-clause-complete
returns-in-Err-read_blob-clause-complete g c = λ ok t spells.
    let other = column_as c.in-Ok.buffer.bytes c.args.blob (c.in-Ok.ensures.bytes ∙ c.into_vec.ensures) c.args.ids.now (typ c.args.dtype.now) c.args.rows _ t spells in
    (c.in-Err-read_blob.ensures.complete other.within_limits t other.spelled).1
