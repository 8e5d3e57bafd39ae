use Rattle.std.proofs.Common.{refl, sym, subst}
use Rattle.vx_types.specs.Seen.{typ}
use Rattle.vx_wire_tree.specs.Session.{SessionMeaning, IsShipped}
use Rattle.vx_registry.proofs.LawsSessions.{shipped_alone}
use Rattle.vxcat_blobs.proofs.MakeSteps.{again_can, again_written}
use Rattle.vxcat_blobs.proofs.make.steps.write_under.Goals as goal

pub returns-clause-again : goal.returns-clause-again
returns-clause-again g c =
    let written = c.in-Ok.written in
    again_written c.args.array.now c.requires.table written c.in-Ok.ensures.written written.blob.bytes (typ c.dtype.result.now) c.len.result c.new-read.result c.empty.result _ c.serialize_options.result
    refl c.dtype.ensures.dtype c.len.ensures.len c.new-read.ensures (λ k. record { ids = c.empty.ensures.ids k; allowed = c.empty.ensures.allowed k }) c.requires.session c.serialize_options.ensures
    c.recode_buffer.result (c.recode_buffer.ensures.made (subst (λ (z : SessionMeaning). IsShipped z) (sym c.requires.session) (shipped_alone _)))

pub returns-clause-memory : goal.returns-clause-memory
returns-clause-memory g c =
    let written = c.in-Ok.written in
    c.recode_buffer.ensures.complete (subst (λ (z : SessionMeaning). IsShipped z) (sym c.requires.session) (shipped_alone _))
    (again_can c.args.array.now c.requires.table written c.in-Ok.ensures.written written.blob.bytes (typ c.dtype.result.now) c.len.result c.new-read.result c.empty.result _ c.serialize_options.result
    refl c.dtype.ensures.dtype c.len.ensures.len c.new-read.ensures (λ k. record { ids = c.empty.ensures.ids k; allowed = c.empty.ensures.allowed k }) c.requires.session c.serialize_options.ensures)
