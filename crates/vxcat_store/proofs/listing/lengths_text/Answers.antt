use Rattle.std.proofs.Common.{ℕ, ◌++◌, string_bytes, codes, ap, ◌∙◌}
use Rattle.std.specs.Fmt.{decimal}
use Rattle.vx_trees.specs.Rose.{label}
use Rattle.vx_array_tree.specs.Table.{buffers_of}
use Rattle.vxcat_store.proofs.Listings.{lengths_next}
use Rattle.vxcat_store.proofs.listing.lengths_text.Goals as goal

pub loop-i-preserved : goal.loop-i-preserved
loop-i-preserved c =
    let size = ap (λ (n : ℕ). decimal n) c.len.ensures in
    lengths_next (buffers_of (label c.args.array.now).body) c.loop-i.i c.buffer.result.now (string_bytes c.loop-i.text) (string_bytes c.push_length.new.text) c.buffer.ensures c.loop-i.invariant
    (λ e. c.in_ok-push_length.ensures.first e ∙ ap (λ z. string_bytes c.loop-i.text ++ z) size)
    (λ e. c.in_ok-push_length.ensures.further e ∙ ap (λ z. string_bytes c.loop-i.text ++ (codes ", " ++ z)) size)
