-- The parts of the array are those of the one that it is made of.
use Rattle.std.proofs.Common.{◌∙◌, ap}
use Rattle.vx_trees.specs.Rose.{below, roses_of}
use Rattle.vx_types.specs.Seen.{typ}
use Rattle.vx_types.specs.declared.dtype.DType.{DType}
use Rattle.vx_arrays.specs.Plain.{plain_body}
use Rattle.vx_arrays.specs.declared.body.Body.{Body}
use Rattle.vx_arrays.proofs.Cloned.{all_of_them, same_again, sound_again}
use Rattle.vx_arrays.proofs.array.Array.+clone.Goals as goal

pub with_parts-requires-clause-node : goal.with_parts-requires-clause-node
with_parts-requires-clause-node t c =
    sound_again c.args.self.now (typ c.in-Ok.dtype) c.len.result c.in-Ok-clone.stats c.in_ok-body.body (roses_of c.loop-child.children.items)
    (same_again c.args.self.now (typ c.in-Ok.dtype) c.len.result c.in-Ok-clone.stats c.in_ok-body.body (roses_of c.loop-child.children.items)
    (ap (λ (d : DType). typ d) c.in-Ok.ensures.ok ∙ c.dtype.ensures.dtype)
    c.len.ensures.len
    (c.in-Ok-clone.ensures.ok ∙ c.statistics.ensures.stats)
    (ap (λ (b : Body). plain_body b) c.in_ok-body.ensures.ok ∙ c.body.ensures)
    (all_of_them c.loop-child.children.items c.children-child-items.result.now c.loop-child.child-index (below c.args.self.now) c.loop-child.invariant c.loop-child-test.false c.children-child-items.ensures.children))
    c.len.ensures.sound

pub returns-clause-ok : goal.returns-clause-ok
returns-clause-ok t c =
    c.with_parts.ensures
    ∙ same_again c.args.self.now (typ c.in-Ok.dtype) c.len.result c.in-Ok-clone.stats c.in_ok-body.body (roses_of c.loop-child.children.items)
    (ap (λ (d : DType). typ d) c.in-Ok.ensures.ok ∙ c.dtype.ensures.dtype)
    c.len.ensures.len
    (c.in-Ok-clone.ensures.ok ∙ c.statistics.ensures.stats)
    (ap (λ (b : Body). plain_body b) c.in_ok-body.ensures.ok ∙ c.body.ensures)
    (all_of_them c.loop-child.children.items c.children-child-items.result.now c.loop-child.child-index (below c.args.self.now) c.loop-child.invariant c.loop-child-test.false c.children-child-items.ensures.children)
