-- The entries are the first of the children, and there are no others.
use Rattle.vx_types.specs.Seen.{typ}
use Rattle.vx_arrays.proofs.Mapped.{alone_item}
use Rattle.vx_arrays.proofs.encodings.map.entries_in.Goals as goal

pub returns-clause-alone : goal.returns-clause-alone
returns-clause-alone c = alone_item c.args.children.now c.entries-item.result (typ c.args.dtype.now) c.args.len c.in-len1-up.len_at_least c.entries-item.is c.requires
