use Rattle.std.proofs.Common.{[], ◌∙◌, refl, arith, ap, sym, subst}
use Rattle.std.proofs.lemmas.Grind.{put_three, put_five}
use Rattle.std.specs.Fmt.{IsPlainFormatter}
use Rattle.vx_fn_wire.specs.Seen.{expr}
use Rattle.vx_fn_wire.proofs.Texts.{smaller_child, more_text_more, rest_length, no_children, same_written, with_children}
use Rattle.vx_fn_wire.proofs.expression.ExpressionDisplay.+fmt.Goals.{in_default, in-len1-up+in_ok-fmt-in-Call+else-loop-child-test}
use Rattle.vx_fn_wire.proofs.expression.ExpressionDisplay.+fmt.Goals as goal

pub loop-child-init : goal.loop-child-init
loop-child-init g t c = λ p. record { wrote = record { parts = []; calls = refl; whole = refl }; plain = p }

pub fmt-requires-in-loop-child : goal.fmt-requires-in-loop-child
fmt-requires-in-loop-child g t c =
    let smaller = smaller_child c.args.self.now c.in-Call.call.function c.in-Call.call.children c.as_slice.result.now c.loop-child.child-index c.child-item.result
    (ap expr c.in-Call.is) (c.as_slice.ensures ∙ c.children.ensures.same) (omega (arith, c.loop-child-test.true)) c.child-item.is in
    λ κs le. (omega (arith, smaller, c.decreases), le)

pub loop-child-preserved : goal.loop-child-preserved
loop-child-preserved g t c =
    λ p.
    let so_far = c.loop-child.invariant p in
    let comma = c.in_ok-write_str-in-Call-3.ensures.writes so_far.plain refl in
    let child = c.in_ok-fmt-in-Call-2.ensures.writes comma.plain refl in
    put_three _ _ _ _ _ _ _ _ _ so_far comma child
    (more_text_more _ c.loop-child.child-index c.child-item.result (omega (arith, c.loop-child-test.true, rest_length c.as_slice.result.now)) c.child-item.is)

pub returns-after-as_slice-lt1-clause-writes : goal.returns-after-as_slice-lt1-clause-writes
returns-after-as_slice-lt1-clause-writes g t c =
    λ p ok.
    let id = c.in_ok-write_str-in-Call.ensures.writes p refl in
    let bracket = c.in_ok-write_str-in-Call-2.ensures.writes id.plain refl in
    let same = c.as_str.ensures.same ∙ ap (λ f. f.id) c.function.ensures in
    let seen = c.as_slice.ensures ∙ c.children.ensures.same in
    elim c.if-as_slice-lt1.branch [
      | in_default w ↦
          let close = c.write_str-in-Call-3.ensures.writes (subst IsPlainFormatter (sym w.f-is) bracket.plain) ok in
          put_three _ _ _ _ _ _ _ _ _ id (same_written _ _ _ _ _ w.f-is bracket) close (no_children c.args.self.now c.in-Call.call.function _ _ _ (ap expr c.in-Call.is) seen w.in_default.len_below same)
      | in-len1-up+in_ok-fmt-in-Call+else-loop-child-test w ↦
          let first = w.in_ok-fmt-in-Call.ensures.writes bracket.plain refl in
          let rest = w.loop-child.invariant first.plain in
          let close = c.write_str-in-Call-3.ensures.writes (subst IsPlainFormatter (sym w.f-is) rest.plain) ok in
          put_five _ _ _ _ _ _ _ _ _ _ _ _ _ id bracket first (same_written _ _ _ _ _ w.f-is rest) close
          (with_children c.args.self.now c.in-Call.call.function _ _ _ w.first-item.result w.loop-child.child-index (ap expr c.in-Call.is) seen w.in-len1-up.len_at_least w.first-item.is (omega (arith, w.loop-child-test.false)) same)
    ]
