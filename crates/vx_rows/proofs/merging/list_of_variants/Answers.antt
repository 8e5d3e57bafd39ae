-- The elements of a list of variants fit its type.
use Rattle.vx_trees.specs.Rose.{roses_of}
use Rattle.vx_types.specs.Seen.{typ}
use Rattle.vx_rows.proofs.Merged.{each_fit, list_fits}
use Rattle.vx_rows.proofs.merging.list_of_variants.Goals as goal

pub scalar_of-requires : goal.scalar_of-requires
scalar_of-requires c =
    list_fits (typ c.in_ok-dtype.dtype) (roses_of c.in_ok-all.all) c.in_ok-dtype.ensures.ok
    (each_fit (typ c.args.element.now) (roses_of c.args.values.now) (roses_of c.in_ok-all.all) c.in_ok-all.ensures.ok c.requires)
