use Rattle.std.proofs.Common.{◌++◌, codes, string_bytes, refl, sym, ap, ◌∙◌}
use Rattle.vx_trees.specs.Rose.{label}
use Rattle.vx_array_tree.specs.Tree.{Trees}
use Rattle.vxcat_store.specs.Listing.{node_line, node_lines, node_lines_below}
use Rattle.vxcat_store.proofs.Listings.{node_lines-is, child_lines, line_next}
use Rattle.vxcat_store.proofs.listing.+push_nodes.Goals as goal

pub loop-child-init : goal.loop-child-init
loop-child-init t c =
    let indent = c.args.indent.now in
    let line = node_line indent (label c.args.array.now) in
    let left = node_lines-is indent c.args.array.now ∙ ap (λ (ts : Trees). line ++ node_lines_below (indent ++ codes "  ") ts) (sym c.children-child-items.ensures.children) in
    line_next (string_bytes c.args.text.now) (string_bytes c.push_node.new.text) (node_lines indent c.args.array.now) line _ _ c.in_ok-push_node.ensures left refl

pub loop-child-preserved : goal.loop-child-preserved
loop-child-preserved t c =
    let indent = c.as_str.ensures.value ∙ c.in_ok-deeper.ensures.ok in
    let child = child_lines c.args.indent.now _ c.children-child-items.result.now c.loop-child.child-index _ _ indent c.loop-child-test.true c.child-item.is in
    line_next _ _ _ _ _ _ c.in_ok-push_nodes.ensures child c.loop-child.invariant
