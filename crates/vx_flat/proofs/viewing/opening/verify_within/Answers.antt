use Rattle.std.proofs.Common.{refl, rules}
use Rattle.std.proofs.lemmas.Result.{err_from_is_err_and}
use Rattle.vx_flat.proofs.Opening.{root_view_is, weight_counted, bad_is, complete_is}
use Rattle.vx_flat.proofs.viewing.opening.verify_within.Goals as goal

pub returns-in_err-verify_table-clause-verified : goal.returns-in_err-verify_table-clause-verified
returns-in_err-verify_table-clause-verified g c =
    let p = err_from_is_err_and c.from_residual.result c.from_residual.ensures.1 in
    let s = g.K.TableKind.schema in
    let m = c.args.message.now in
    rw (p.1, p.2) record {
      shows = search rules;
      within_limits = search rules;
      bad = λ e. bad_is s m c.u32_at-place.result c.root-table.result c.args.limits c.new-budget.result
          c.u32_at-place.ensures c.root-table.ensures c.in_err-verify_table.field-0.0
          c.in_err-verify_table.ensures.verifies (cc);
      limit = search rules;
      takes_no_memory = search rules;
      never_long = search rules;
      complete = λ v shows within_limits. absurd (complete_is s m c.u32_at-place.result
          c.root-table.result c.args.limits c.new-budget.result c.u32_at-place.ensures c.root-table.ensures
          c.if-message-lt4.false c.new-budget.ensures c.in_err-verify_table.field-0.0
          c.in_err-verify_table.ensures.verifies v shows within_limits);
    }

pub returns-clause-verified : goal.returns-clause-verified
returns-clause-verified g c =
    let s = g.K.TableKind.schema in
    let m = c.args.message.now in
    record {
      shows = root_view_is _ s m c.if-message-lt4.false c.lists-schema.ensures refl c.root-table.ensures
          c.u32_at-place.ensures
          (weight_counted s m c.u32_at-place.result c.root-table.result c.args.limits c.new-budget.result
          c.verify_table.new.budget c.u32_at-place.ensures c.root-table.ensures c.if-message-lt4.false
          c.new-budget.ensures c.in_ok-verify_table.ensures.verifies.1
          _ _ refl refl);
      within_limits = search rules;
      bad = search rules;
      limit = search rules;
      takes_no_memory = search rules;
      never_long = search rules;
      complete = search rules;
    }
