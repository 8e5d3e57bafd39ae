-- There are as many names as types.
use Rattle.vx_rows.proofs.Fieldwise.{named_lengths}
use Rattle.vx_rows.proofs.named_variants.NamedVariants.into_scalar.Goals as goal

pub unreachable-requires : goal.unreachable-requires
unreachable-requires c = c.in-Err.ensures.err.1 (named_lengths c.args.self c.requires.0 c.requires.1)
