use Rattle.std.proofs.Common.{◌++◌, List, ℕ, ◌+◌, ◌-◌, sym, ap, ◌∙◌, arith}
use Rattle.vxcat_store.specs.Listing.{row_lines}
use Rattle.vxcat_store.proofs.KnownText.{up_to_ok, up_to_err}
use Rattle.vxcat_store.proofs.Listings.{row_lines-next}
use Rattle.vxcat_store.proofs.listing.print_rows.Goals as goal

pub returns-in_err-write_text-clause-prefix : goal.returns-in_err-write_text-clause-prefix
returns-in_err-write_text-clause-prefix g c =
    let line = c.as_bytes.ensures.value ∙ c.as_str.ensures.value ∙ c.in_ok-line.ensures in
    let next = row_lines-next c.args.array.now c.loop-i.i c.min-shown.result c.loop-i-test.true in
    let shown = next ∙ ap (λ (l : List ℕ). l ++ row_lines c.args.array.now (c.loop-i.i + 1) (c.min-shown.result - (c.loop-i.i + 1))) (sym line) in
    let all = up_to_err _ _ _ _ _ _ _ c.loop-i.invariant.written shown c.write_text.ensures.prefix in
    rw (sym c.len.ensures.len, sym c.min-shown.ensures) all

pub loop-i-preserved : goal.loop-i-preserved
loop-i-preserved g c =
    let line = c.as_bytes.ensures.value ∙ c.as_str.ensures.value ∙ c.in_ok-line.ensures in
    let next = row_lines-next c.args.array.now c.loop-i.i c.min-shown.result c.loop-i-test.true in
    let shown = next ∙ ap (λ (l : List ℕ). l ++ row_lines c.args.array.now (c.loop-i.i + 1) (c.min-shown.result - (c.loop-i.i + 1))) (sym line) in
    record {
      written = up_to_ok _ _ _ _ _ _ _ c.loop-i.invariant.written shown c.in_ok-write_text.ensures.ok;
      never_decreases = omega (arith, c.loop-i.invariant.never_decreases, c.write_text.ensures.never_decreases);
    }
