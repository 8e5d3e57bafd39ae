use Rattle.std.proofs.Common.{◌∙◌}
use Rattle.vx_plugin_tests.proofs.Written.{alone, over_is}
use Rattle.vx_plugin_tests.proofs.odd.written_over.Goals as goal

pub returns-in-Ok : goal.returns-in-Ok
returns-in-Ok c =
    over_is c.args.id.now c.args.array.now c.new-in-Ok.result (c.new-in-Ok.ensures.id ∙ c.in_ok-id.ensures) (c.new-in-Ok.ensures.metadata ∙ c.new-metadata.ensures ∙ c.new.ensures.items) (c.new-in-Ok.ensures.buffers ∙ c.new-buffers.ensures)
    (c.new-in-Ok.ensures.children ∙ alone c.new-children.result c.push.new.self c.in_ok-copy_of.field-0 c.args.array.now c.new-children.ensures c.in-Ok.ensures.ok c.in_ok-copy_of.ensures.ok)
