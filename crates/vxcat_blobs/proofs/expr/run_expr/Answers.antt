use Rattle.std.proofs.Common.{ℕ, List, [], ◌∷◌, Err, ap, arith, refl, subst, ◌∙◌}
use Rattle.std.specs.Io.KnownBytes.{Appends}
use Rattle.vxcat_store.specs.Written.{AppendsPrefix}
use Rattle.vxcat_store.proofs.Laws.{asked_more, asked_none}
use Rattle.vxcat_blobs.proofs.Expressions.{load_ends, unread_ends}
use Rattle.vxcat_blobs.proofs.expr.run_expr.Goals as goal

pub returns-in-Err : goal.returns-in-Err
returns-in-Err g c =
    let file = c.args.file.now in
    let load = c.load.ensures in
    let asked = asked_more (file ∷ []) _ _ _ _ (asked_none (file ∷ []) _) (0, omega arith, refl) load.asked in
    let ends = load_ends c.in-Err.error file _ _ (g.O.Sink.state c.args.out.now) asked load.told load.files (λ is. c.in-Err.ensures.fault (ap Err is)) in
    rw c.of_load.ensures ends

pub returns-in-Err-expression_lines : goal.returns-in-Err-expression_lines
returns-in-Err-expression_lines g c =
    let load = c.load.ensures in
    unread_ends c.in-Err-expression_lines.status c.args.file.now c.in-Ok.bytes _ _ _ c.in-Ok.ensures.bytes c.in-Err-expression_lines.ensures.cause load.told load.files

pub returns-in-Ok-write_text : goal.returns-in-Ok-write_text
returns-in-Ok-write_text g c =
    let load = c.load.ensures in
    let lines = c.in-Ok-expression_lines.ensures.lines in
    let text = c.as_bytes.ensures.value ∙ c.as_str.ensures.value ∙ lines.2 in
    record {
      bytes = c.in-Ok.bytes;
      expr = lines.0;
      stands = c.in-Ok.ensures.bytes;
      read = lines.1;
      told = load.told;
      files = load.files;
      printed = subst (λ (l : List ℕ). Appends (g.O.Sink.state c.args.out.now).written (g.O.Sink.state c.write_text.new.out).written l) text c.in-Ok-write_text.ensures.ok;
    }

pub returns : goal.returns
returns g c =
    let load = c.load.ensures in
    let lines = c.in-Ok-expression_lines.ensures.lines in
    let text = c.as_bytes.ensures.value ∙ c.as_str.ensures.value ∙ lines.2 in (
      c.in-Err-write_text.ensures.fault,
      record {
        bytes = c.in-Ok.bytes;
        expr = lines.0;
        stands = c.in-Ok.ensures.bytes;
        read = lines.1;
        told = load.told;
        files = load.files;
        printed = subst (λ (l : List ℕ). AppendsPrefix (g.O.Sink.state c.args.out.now).written (g.O.Sink.state c.write_text.new.out).written l) text c.write_text.ensures.prefix;
      },
    )
