-- The storage is the first of the children, and there are no others.
use Rattle.vx_types.specs.Seen.{typ}
use Rattle.vx_arrays.proofs.Stored.{alone_item}
use Rattle.vx_arrays.proofs.encodings.extension.storage_in.Goals as goal

pub returns-clause-alone : goal.returns-clause-alone
returns-clause-alone c = alone_item c.args.children.now c.storage-item.result (typ c.args.dtype.now) c.args.len c.in-len1-up.len_at_least c.storage-item.is c.requires
