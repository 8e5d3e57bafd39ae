-- Two or more children are no entries.
use Rattle.std.proofs.lemmas.Bool.{false≢true}
use Rattle.vx_types.specs.Seen.{typ}
use Rattle.vx_arrays.proofs.Mapped.{never_two}
use Rattle.vx_arrays.proofs.encodings.map.is_shaped.Goals as goal

pub returns-in_default-2 : goal.returns-in_default-2
returns-in_default-2 c = (λ t. absurd (false≢true t), λ s. absurd (never_two c.args.children.now (typ c.args.dtype.now) c.args.len c.in_default.len_at_least s))
