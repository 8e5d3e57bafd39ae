-- A node is of the shape exactly where its first three children and what stands after them are right.
use Rattle.std.proofs.lemmas.Bool.{false≢true}
use Rattle.vx_types.specs.Seen.{typ}
use Rattle.vx_arrays.proofs.ListViewed.{never_few, parts_decide}
use Rattle.vx_arrays.proofs.encodings.list_view.is_shaped.Goals as goal

pub returns-then-children-lt3 : goal.returns-then-children-lt3
returns-then-children-lt3 c = (λ t. absurd (false≢true t), λ s. absurd (never_few (typ c.args.dtype.now) c.args.len c.args.zero_copy c.args.children.now c.if-children-lt3.true s))

pub returns : goal.returns
returns c =
    parts_decide (typ c.args.dtype.now) c.args.len c.args.zero_copy c.are_parts.result c.args.children.now c.split_first.result.0.now c.split_first-2.result.0.now c.split_first-3.result.0.now c.split_first.result.1.now c.split_first-2.result.1.now c.split_first-3.result.1.now
    c.split_first.ensures c.split_first-2.ensures c.split_first-3.ensures c.are_parts.ensures
