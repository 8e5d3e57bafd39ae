-- By the steps of a loop that writes columns.
use Rattle.std.proofs.Common.{◌≡◌, ◌+◌, ◌∷◌, [], List, drop, refl, sym, ap, ◌∙◌, arith}
use Rattle.std.proofs.lemmas.List.{drop_more, drop_all}
use Rattle.std.proofs.lemmas.Result.{err_from_is_err_and}
use Rattle.vx_buffer.specs.Joined.{joined}
use Rattle.vx_array_tree.specs.Tree.{Tree}
use Rattle.vx_wire_tree.specs.Context.{Context}
use Rattle.vx_file.specs.FooterReading.{ranges_of}
use Rattle.vx_file.proofs.FooterLists.{pushed_ranges}
use Rattle.vx_file.proofs.GrownContexts.{begun_context}
use Rattle.vx_file.proofs.WritingSteps.{leads_begun, leads_step, leads_blobs, leads_ranges, leads_context, leads_written, leads_refused}
use Rattle.vx_file.proofs.written_columns.write_columns.Goals as goal

pub loop-column-init : goal.loop-column-init
loop-column-init g c = record {
  leads = leads_begun _ c.args.columns.now c.args.columns.now (joined c.new-buffers.result) (ranges_of c.new-ranges.result.items) c.empty-ctx.result refl
      (ap (λ bs. joined bs) c.new-buffers.ensures) (ap ranges_of c.new-ranges.ensures.items) (begun_context c.empty-ctx.result c.empty-ctx.ensures.ids c.empty-ctx.ensures.allowed);
  ends = omega arith;
}

pub loop-column-preserved : goal.loop-column-preserved
loop-column-preserved g c =
    let ts = c.args.columns.now in
    let i = c.loop-column.column-index in
    let t = c.column-item.result in
    let there : drop i ts ≡ t ∷ drop (i + 1) ts = drop_more ts i t c.loop-column-test.true ∙ ap (λ z. z ∷ drop (i + 1) ts) (sym c.column-item.is) in
    record {
      leads = leads_step _ ts t (drop i ts) (drop (i + 1) ts) (joined c.loop-column.buffers) (joined c.write_column.new.buffers) (ranges_of c.loop-column.ranges.items) (ranges_of c.push.new.self.items)
          c.loop-column.offset c.in_ok-len.len c.loop-column.ctx c.write_column.new.ctx c.loop-column.invariant.leads there c.in_ok-len.ensures.column c.in_ok-len.ensures.written c.in_ok-len.ensures.len
          (sym (pushed_ranges c.loop-column.ranges.items (record { start = c.loop-column.offset; len = c.in_ok-len.len }) c.push.new.self.items c.in_ok-push.ensures.items)) c.in_ok-len.ensures.context;
      ends = c.in_ok-len.ensures.ends;
    }

pub returns-in_err-len-clause-cause : goal.returns-in_err-len-clause-cause
returns-in_err-len-clause-cause g c =
    let ts = c.args.columns.now in
    let i = c.loop-column.column-index in
    let t = c.column-item.result in
    let there : drop i ts ≡ t ∷ drop (i + 1) ts = drop_more ts i t c.loop-column-test.true ∙ ap (λ z. z ∷ drop (i + 1) ts) (sym c.column-item.is) in
    let p = err_from_is_err_and c.from_residual.result c.from_residual.ensures.1 in
    rw (p.1, p.2) (leads_refused _ ts t (drop i ts) (drop (i + 1) ts) (joined c.loop-column.buffers) (ranges_of c.loop-column.ranges.items) c.loop-column.offset c.loop-column.ctx
    c.loop-column.invariant.leads there c.in_err-len.field-0.0 c.in_err-len.ensures.cause)

pub returns-clause-made : goal.returns-clause-made
returns-clause-made g c =
    let ts = c.args.columns.now in
    let i = c.loop-column.column-index in
    let none : drop i ts ≡ [] = drop_all i ts c.loop-column-test.false in
    let bytes = joined c.loop-column.buffers in
    let ranges = ranges_of c.loop-column.ranges.items in
    let leads = c.loop-column.invariant.leads in
    record {
      blobs = leads_blobs _ ts (drop i ts) bytes ranges c.loop-column.offset c.loop-column.ctx leads none;
      ranges_are = leads_ranges _ ts (drop i ts) bytes ranges c.loop-column.offset c.loop-column.ctx leads none;
      ids = ap (λ (x : Context). x.ids) (leads_context _ ts (drop i ts) bytes ranges c.loop-column.offset c.loop-column.ctx leads none);
      written = leads_written _ ts (drop i ts) bytes ranges c.loop-column.offset c.loop-column.ctx leads none;
    }
