use Rattle.std.proofs.Common.{◌≡◌, ◌*◌, ◌<◌, ◌≤◌, ◌++◌, [], drop, get_or, length, arith, ap, sym, ◌∙◌, append-nil}
use Rattle.std.proofs.Math.ListN.{drop_of_length-le}
use Rattle.vx_flat.specs.Blocks.{gap}
use Rattle.vx_flat.specs.CellForm.{end_after}
use Rattle.vx_flat.specs.FieldTables.{inline_end, distances, entry_bytes, zeros}
use Rattle.vx_flat.specs.Layout.{cells_bytes}
use Rattle.vx_flat.specs.Linking.{cells_of}
use Rattle.vx_flat.proofs.Entering.{length_cells, cell_of}
use Rattle.vx_flat.proofs.Pushing.{inline_end_at, absent_at, later_at, cells_at, cells_gone}
use Rattle.vx_flat.proofs.writing.field_tables.push_parts.Goals as goal
use Rattle.vx_flat.proofs.writing.field_tables.push_parts.Goals.{then-is_absent, else-is_absent+in_ok-push_zeros+in_ok-push_number+in_ok-push_cell}

pub loop-entry-preserved : goal.loop-entry-preserved
loop-entry-preserved c =
    let es = c.args.entries.now in
    let cs = cells_of es [] in
    let i = c.loop-entry.entry-index in
    let p = c.loop-entry.end in
    let lt : i < length cs = rw (length_cells es) c.loop-entry-test.true in
    elim c.if-is_absent.branch [
      | then-is_absent w ↦
          let gone : get_or cs i gap ≡ gap = cell_of es i ∙ c.is_absent.ensures 0 w.if-is_absent.true in
          rw (w.end-is, w.absent-is, w.distances-is, w.own-is) record {
            near = omega (arith, c.loop-entry.invariant.near);
            size = inline_end_at cs i p p (inline_end 4 cs) lt (ap (λ x. end_after x p) (sym gone)) c.loop-entry.invariant.size;
            few = omega (arith, c.loop-entry.invariant.few);
            distances = absent_at cs i p c.loop-entry.absent c.loop-entry.distances.items
                (c.args.distances.now.items ++ entry_bytes (distances 4 cs)) lt gone c.loop-entry.invariant.distances;
            own = cells_gone cs i p c.loop-entry.own.items (c.args.own.now.items ++ cells_bytes [] 0 4 cs) lt gone c.loop-entry.invariant.own;
          }
      | else-is_absent+in_ok-push_zeros+in_ok-push_number+in_ok-push_cell w ↦
          let cell : w.cell_at-cell.result ≡ get_or cs i gap = w.cell_at-cell.ensures ∙ sym (cell_of es i) in
          let after : w.end_after-end.result ≡ end_after (get_or cs i gap) p =
          w.end_after-end.ensures.value ∙ ap (λ x. end_after x p) cell in
          rw (w.end-is, w.absent-is, w.distances-is, w.own-is) record {
            near = omega (arith, c.loop-entry.invariant.near, w.end_after-end.ensures.near);
            size = inline_end_at cs i p w.end_after-end.result (inline_end 4 cs) lt after c.loop-entry.invariant.size;
            few = omega arith;
            distances = rw (w.in_ok-push_number.ensures, w.in_ok-push_zeros.ensures, w.distance.ensures, cell)
                (later_at cs i p w.end_after-end.result c.loop-entry.absent c.loop-entry.distances.items
                (c.args.distances.now.items ++ entry_bytes (distances 4 cs)) lt after c.loop-entry.invariant.distances);
            own = rw (w.in_ok-push_cell.ensures, cell)
                (cells_at [] 0 cs i p w.end_after-end.result c.loop-entry.own.items
                (c.args.own.now.items ++ cells_bytes [] 0 4 cs) lt after c.loop-entry.invariant.own);
          }
    ]

pub returns-clause-end : goal.returns-clause-end
returns-clause-end c =
    let es = c.args.entries.now in
    let cs = cells_of es [] in
    let i = c.loop-entry.entry-index in
    let le : length cs ≤ i = rw (length_cells es) (omega (arith, c.loop-entry-test.false)) in
    let none : drop i cs ≡ [] = drop_of_length-le cs le in
    ap (λ ds. inline_end c.loop-entry.end ds) (sym none) ∙ c.loop-entry.invariant.size

pub returns-clause-distances : goal.returns-clause-distances
returns-clause-distances c =
    let es = c.args.entries.now in
    let cs = cells_of es [] in
    let i = c.loop-entry.entry-index in
    let le : length cs ≤ i = rw (length_cells es) (omega (arith, c.loop-entry-test.false)) in
    let none : drop i cs ≡ [] = drop_of_length-le cs le in
    let out = c.loop-entry.distances.items in
    c.in_ok-push_zeros-2.ensures
    ∙ (ap (λ x. out ++ x) (sym (append-nil (zeros (2 * c.loop-entry.absent))))
    ∙ (ap (λ ds. out ++ (zeros (2 * c.loop-entry.absent) ++ entry_bytes (distances c.loop-entry.end ds))) (sym none)
    ∙ c.loop-entry.invariant.distances))

pub returns-clause-own : goal.returns-clause-own
returns-clause-own c =
    let es = c.args.entries.now in
    let cs = cells_of es [] in
    let i = c.loop-entry.entry-index in
    let le : length cs ≤ i = rw (length_cells es) (omega (arith, c.loop-entry-test.false)) in
    let none : drop i cs ≡ [] = drop_of_length-le cs le in
    let out = c.loop-entry.own.items in
    sym (append-nil out) ∙ (ap (λ ds. out ++ cells_bytes [] 0 c.loop-entry.end ds) (sym none)
    ∙ c.loop-entry.invariant.own)
