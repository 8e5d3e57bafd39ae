use Rattle.std.proofs.Common.{refl, subst}
use Rattle.vx_trees.specs.Rose.{label}
use Rattle.vx_scalars.specs.Stats.{Stats}
use Rattle.vx_scalar_wire.specs.StatsTable.{AreStorable}
use Rattle.vx_serde.proofs.StatsBlocks.{written_blocks, stopped_for}
use Rattle.vx_serde.proofs.blocks.write_statistics.Goals as goal

pub returns-in-Ok-clause-written : goal.returns-in-Ok-clause-written
returns-in-Ok-clause-written c =
    written_blocks c.statistics.result.now (label c.args.array.now).stats c.statistics.ensures.stats c.args.builder.now c.write_flatbuffer.new.builder c.in-Ok.ensures.written (c.in-Ok.ensures.fits refl)

pub returns-in-Ok-clause-storable : goal.returns-in-Ok-clause-storable
returns-in-Ok-clause-storable c = subst (λ (x : Stats). AreStorable x) c.statistics.ensures.stats c.in-Ok.ensures.storable

pub returns-in-Err-clause-stopped : goal.returns-in-Err-clause-stopped
returns-in-Err-clause-stopped c =
    rw c.as_flat_error.ensures
    (stopped_for (label c.args.array.now).dtype c.statistics.result.now (label c.args.array.now).stats c.statistics.ensures.stats c.statistics.ensures.fits c.args.builder.now c.write_flatbuffer.new.builder c.in-Err.e
    c.in-Err.ensures.kept c.in-Err.ensures.cause c.in-Err.ensures.failed)
