use Rattle.std.proofs.Common.{◌++◌, List, ℕ, [], min, sym, ap, ◌∙◌}
use Rattle.std.proofs.lemmas.List.{append-nil}
use Rattle.vx_trees.specs.Rose.{label}
use Rattle.vxcat_store.specs.Listing.{node_lines, row_lines, listing}
use Rattle.vxcat_store.proofs.KnownText.{up_to_start, up_to_ok, up_to_err}
use Rattle.vxcat_store.proofs.listing.print_listing.Goals as goal

pub returns-in_err-write_text-clause-prefix : goal.returns-in_err-write_text-clause-prefix
returns-in_err-write_text-clause-prefix g c =
    let rows = row_lines c.args.array.now 0 (min c.args.rows (label c.args.array.now).len) in
    let text = c.as_bytes.ensures.value ∙ c.as_str.ensures.value ∙ c.in_ok-push_nodes.ensures ∙ ap (λ (l : List ℕ). l ++ node_lines [] c.args.array.now) c.new-nodes.ensures.bytes in
    up_to_err _ _ _ _ _ _ rows (up_to_start _ (listing c.args.array.now c.args.rows)) (sym (ap (λ (l : List ℕ). l ++ rows) text)) c.write_text.ensures.prefix

pub returns-clause-prefix : goal.returns-clause-prefix
returns-clause-prefix g c =
    let rows = row_lines c.args.array.now 0 (min c.args.rows (label c.args.array.now).len) in
    let text = c.as_bytes.ensures.value ∙ c.as_str.ensures.value ∙ c.in_ok-push_nodes.ensures ∙ ap (λ (l : List ℕ). l ++ node_lines [] c.args.array.now) c.new-nodes.ensures.bytes in
    let nodes = up_to_ok _ _ _ _ _ _ rows (up_to_start _ (listing c.args.array.now c.args.rows)) (sym (ap (λ (l : List ℕ). l ++ rows) text)) c.in_ok-write_text.ensures.ok in
    up_to_err _ _ _ _ _ _ _ nodes (sym (append-nil rows)) c.print_rows.ensures.prefix
