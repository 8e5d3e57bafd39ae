use Rattle.std.proofs.Common.{◌∙◌}
use Rattle.vxcat_blobs.proofs.MakeSteps.{line_of_table}
use Rattle.vxcat_blobs.proofs.make.steps.outputs_of.Goals as goal

pub returns-in-Ok-write_again-clause-made : goal.returns-in-Ok-write_again-clause-made
returns-in-Ok-write_again-clause-made c =
    let again = c.in-Ok-write_again.ensures.again in
    record {
      are_made = record {
        type_written = c.in-Ok-write_type.ensures.written;
        type_read = c.in-Ok-write_type.ensures.read;
        blob = again;
      };
      line_is = c.in-Ok.ensures ∙ line_of_table c.args.table.now.array c.requires.table c.len.result c.args.table.now.data_len c.len.ensures.len c.requires.data;
    }
