use Rattle.std.proofs.Common.{ℕ, List, ◌∙◌, subst}
use Rattle.std.specs.Io.KnownBytes.{Appends}
use Rattle.vxcat_blobs.specs.MakeViews.{files_of, make_line}
use Rattle.vxcat_store.specs.Written.{AppendsPrefix}
use Rattle.vxcat_blobs.proofs.MakeEndings.{memory_ends, save_ends}
use Rattle.vxcat_blobs.proofs.make.run_make.Goals as goal

pub returns-in-Err : goal.returns-in-Err
returns-in-Err g c = memory_ends c.in-Err.status (make_line c.args.words.now) (g.S.Store.state c.args.store.now) (g.O.Sink.state c.args.out.now) c.in-Err.ensures.memory

pub returns-in-Err-save_made : goal.returns-in-Err-save_made
returns-in-Err-save_made g c =
    let made = c.in-Ok.ensures.made in
    save_ends c.in-Err-save_made.status (make_line c.args.words.now) _ _ _ (files_of c.in-Ok.made) made.are_made c.in-Err-save_made.ensures.stopped c.save_made.ensures.loaded c.save_made.ensures.others c.in-Err-save_made.ensures.cause

pub returns-in-Ok-write_text : goal.returns-in-Ok-write_text
returns-in-Ok-write_text g c =
    let made = c.in-Ok.ensures.made in
    let text = c.as_bytes.ensures.value ∙ c.as_str.ensures.value ∙ made.line_is in
    record {
      loaded = c.save_made.ensures.loaded;
      files = files_of c.in-Ok.made;
      are_made = made.are_made;
      saved = c.in_default.ensures.saved;
      others = c.save_made.ensures.others;
      printed = subst (λ (l : List ℕ). Appends (g.O.Sink.state c.args.out.now).written (g.O.Sink.state c.write_text.new.out).written l) text c.in-Ok-write_text.ensures.ok;
    }

pub returns : goal.returns
returns g c =
    let made = c.in-Ok.ensures.made in
    let text = c.as_bytes.ensures.value ∙ c.as_str.ensures.value ∙ made.line_is in (
      c.in-Err-write_text.ensures.fault,
      record {
        loaded = c.save_made.ensures.loaded;
        files = files_of c.in-Ok.made;
        are_made = made.are_made;
        saved = c.in_default.ensures.saved;
        others = c.save_made.ensures.others;
        printed = subst (λ (l : List ℕ). AppendsPrefix (g.O.Sink.state c.args.out.now).written (g.O.Sink.state c.write_text.new.out).written l) text c.write_text.ensures.prefix;
      },
    )
