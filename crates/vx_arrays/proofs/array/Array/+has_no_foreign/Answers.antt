-- An array has a foreign node where its root is one, or a child has one.
use Rattle.std.proofs.Common.{arith, subst, sym}
use Rattle.std.proofs.lemmas.Bool.{iff_false}
use Rattle.vx_array_tree.specs.Body.{Body}
use Rattle.vx_array_tree.specs.Table.{IsNative}
use Rattle.vx_arrays.proofs.Comparing.{decides_no, decides_yes}
use Rattle.vx_arrays.proofs.Controlled.{all_native, child_foreign, native_more, root_foreign}
use Rattle.vx_arrays.proofs.array.Array.+has_no_foreign.Goals as goal

pub returns-then-not-is_native : goal.returns-then-not-is_native
returns-then-not-is_native t c =
    decides_no (root_foreign c.args.self.now (λ n. iff_false c.is_native.ensures c.if-not-is_native.true (subst (λ (b : Body). IsNative b) (sym c.body.ensures) n)))

pub returns-then-not-has_no_foreign : goal.returns-then-not-has_no_foreign
returns-then-not-has_no_foreign t c =
    decides_no
    (child_foreign c.args.self.now c.children-child-items.result.now c.children-child-items.ensures.children c.loop-child.child-index c.child-item.result c.loop-child-test.true c.child-item.is
    (iff_false c.has_no_foreign.ensures c.if-not-has_no_foreign.true))

pub loop-child-preserved : goal.loop-child-preserved
loop-child-preserved t c =
    native_more c.children-child-items.result.now c.loop-child.child-index c.child-item.result c.loop-child-test.true c.child-item.is c.loop-child.invariant (c.has_no_foreign.ensures.0 c.if-not-has_no_foreign.false)

pub returns : goal.returns
returns t c =
    decides_yes
    (all_native c.args.self.now c.children-child-items.result.now c.children-child-items.ensures.children c.loop-child.child-index (omega (arith, c.loop-child-test.false))
    (subst (λ (b : Body). IsNative b) c.body.ensures (c.is_native.ensures.0 c.if-not-is_native.false)) c.loop-child.invariant)
