use Rattle.std.proofs.Common.{ℕ, Err, ap, subst}
use Rattle.std.specs.Io.KnownBytes.{Appends}
use Rattle.vx_buffer.specs.Joined.{joined}
use Rattle.vxcat_store.specs.Listing.{listing}
use Rattle.vxcat_store.specs.Written.{AppendsPrefix}
use Rattle.vx_array_tree.specs.Tree.{Tree}
use Rattle.vxcat_blobs.specs.RecodeViews.{line_of, loaded_of}
use Rattle.vxcat_blobs.proofs.Endings.{others_through, order_through, saved_of, work_of, load_ends, refused_ends, save_ends, print_ends}
use Rattle.vxcat_blobs.proofs.recode.run_recode.Goals as goal

pub returns-in-Err : goal.returns-in-Err
returns-in-Err g c =
    let load = c.load_inputs.ensures in
    load_ends c.in-Err.status (line_of c.args.words.now) _ _ _ load.asked load.told load.files c.in-Err.ensures.cause

pub returns-in-Err-recode_inputs : goal.returns-in-Err-recode_inputs
returns-in-Err-recode_inputs g c =
    let load = c.load_inputs.ensures in
    refused_ends c.in-Err-recode_inputs.refusal (line_of c.args.words.now) _ _ _ (loaded_of c.in-Ok.loaded) c.in-Ok.ensures.inputs c.in-Err-recode_inputs.ensures.cause c.in-Err-recode_inputs.ensures.complete load.told load.files

pub returns-in-Err-save_outputs : goal.returns-in-Err-save_outputs
returns-in-Err-save_outputs g c =
    let load = c.load_inputs.ensures in
    let outputs = c.in-Ok-recode_inputs.ensures.made in
    save_ends c.in-Err-save_outputs.status (line_of c.args.words.now) _ _ _ _
    (work_of (line_of c.args.words.now) (g.S.Store.state c.args.store.now) (loaded_of c.in-Ok.loaded) c.in-Ok-recode_inputs.made c.in-Ok.ensures.inputs outputs)
    load.save_faults
    (others_through _ _ _ _ load.files load.told c.save_outputs.ensures.others)
    (order_through (line_of c.args.words.now) (g.S.Store.state c.args.store.now) (g.S.Store.state c.load_inputs.new.store) (g.S.Store.state c.save_outputs.new.store) (joined c.in-Ok-recode_inputs.made.buffers) (joined outputs.made.buffers)
    load.files load.told (ap joined outputs.holds.buffers_are) c.save_outputs.ensures.in_order)
    c.in-Err-save_outputs.ensures.cause

pub returns-in-Ok-print_listing : goal.returns-in-Ok-print_listing
returns-in-Ok-print_listing g c =
    let load = c.load_inputs.ensures in
    let outputs = c.in-Ok-recode_inputs.ensures.made in
    let line = line_of c.args.words.now in
    let by_rows = subst (λ (n : ℕ). Appends (g.O.Sink.state c.args.out.now).written (g.O.Sink.state c.print_listing.new.out).written (listing c.in-Ok-recode_inputs.made.array n))
    c.shown_rows.ensures c.in-Ok-print_listing.ensures.ok in
    let printed = subst (λ (t : Tree). Appends (g.O.Sink.state c.args.out.now).written (g.O.Sink.state c.print_listing.new.out).written (listing t line.settings.rows)) outputs.holds.array_is by_rows in
    record {
      work = work_of line (g.S.Store.state c.args.store.now) (loaded_of c.in-Ok.loaded) c.in-Ok-recode_inputs.made c.in-Ok.ensures.inputs outputs;
      saved = saved_of line (loaded_of c.in-Ok.loaded) c.in-Ok-recode_inputs.made (g.S.Store.state c.save_outputs.new.store) outputs c.in_default.ensures.saved;
      others = others_through _ _ _ _ load.files load.told c.save_outputs.ensures.others;
      printed = printed;
    }

pub returns : goal.returns
returns g c =
    let load = c.load_inputs.ensures in
    let outputs = c.in-Ok-recode_inputs.ensures.made in
    let line = line_of c.args.words.now in
    let by_rows = subst (λ (n : ℕ). AppendsPrefix (g.O.Sink.state c.args.out.now).written (g.O.Sink.state c.print_listing.new.out).written (listing c.in-Ok-recode_inputs.made.array n))
    c.shown_rows.ensures c.print_listing.ensures.prefix in
    let prefix = subst (λ (t : Tree). AppendsPrefix (g.O.Sink.state c.args.out.now).written (g.O.Sink.state c.print_listing.new.out).written (listing t line.settings.rows)) outputs.holds.array_is by_rows in
    let ends = print_ends c.in-Err-print_listing.error line _ _ _ _
    (work_of line (g.S.Store.state c.args.store.now) (loaded_of c.in-Ok.loaded) c.in-Ok-recode_inputs.made c.in-Ok.ensures.inputs outputs)
    (saved_of line (loaded_of c.in-Ok.loaded) c.in-Ok-recode_inputs.made (g.S.Store.state c.save_outputs.new.store) outputs c.in_default.ensures.saved)
    (others_through _ _ _ _ load.files load.told c.save_outputs.ensures.others)
    prefix
    (λ is. c.in-Err-print_listing.ensures.fault (ap Err is)) in
    rw c.of_print.ensures ends
