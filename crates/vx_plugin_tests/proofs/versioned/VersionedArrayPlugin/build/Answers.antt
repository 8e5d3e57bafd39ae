use Rattle.std.proofs.Common.{sym, ◌∙◌}
use Rattle.vx_types.specs.Seen.{typ}
use Rattle.vx_wire_tree.specs.Plugin.{NodeHead}
use Rattle.vx_plugin_tests.specs.VersionedLaws.{form_plain, form_alone}
use Rattle.vx_plugin_tests.proofs.versioned.VersionedArrayPlugin.build.Goals as goal

pub filled-requires-clause-plain : goal.filled-requires-clause-plain
filled-requires-clause-plain g c =
    let p = c.args.parts in
    let h : NodeHead = record { id = p.serialized_id; dtype = typ p.dtype; len = p.len; metadata = p.metadata; nbuffers = c.len-nbuffers.result; nchildren = c.len-nchildren.result } in
    form_plain c.args.self.now.old c.args.self.now.new h (sym c.is_form.ensures ∙ c.if-not-is_form.false)

pub filled-requires-clause-alone : goal.filled-requires-clause-alone
filled-requires-clause-alone g c =
    let p = c.args.parts in
    let h : NodeHead = record { id = p.serialized_id; dtype = typ p.dtype; len = p.len; metadata = p.metadata; nbuffers = c.len-nbuffers.result; nchildren = c.len-nchildren.result } in
    sym c.len-nbuffers.ensures ∙ form_alone c.args.self.now.old c.args.self.now.new h (sym c.is_form.ensures ∙ c.if-not-is_form.false)
