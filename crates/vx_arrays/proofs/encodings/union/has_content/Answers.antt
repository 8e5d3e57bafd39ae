-- The content is right where each tag is.
use Rattle.std.proofs.Common.{ℕ, ◌<◌, List, subst, sym, arith}
use Rattle.std.proofs.lemmas.Bool.{false≢true, iff_false}
use Rattle.std.specs.Prelude.{refl}
use Rattle.vx_trees.specs.Rose.{roses_of}
use Rattle.vx_types.specs.Seen.{typ}
use Rattle.vx_array_tree.specs.Tree.{rows_of}
use Rattle.vx_arrays.specs.Unions.{IsTagged}
use Rattle.vx_arrays.proofs.Tagged.{all_tagged, one_more, one_untagged}
use Rattle.vx_arrays.proofs.encodings.union.has_content.Goals as goal

pub returns-then-not-is_tagged : goal.returns-then-not-is_tagged
returns-then-not-is_tagged c = (
  λ x. absurd (false≢true x),
  λ h. absurd (one_untagged (typ c.args.dtype.now) c.args.len (roses_of c.args.children.now) (roses_of c.split_first.result.1.now) c.split_first.result.0.now c.split_first.ensures c.loop-i.i c.loop-i-test.true
      (λ g. iff_false c.is_tagged.ensures c.if-not-is_tagged.true
      (subst (λ (ids : List ℕ). IsTagged ids (rows_of c.split_first.result.0.now) (roses_of c.split_first.result.1.now) c.loop-i.i) (sym c.ids_of-ids.ensures) g)) h),
)

pub loop-i-preserved : goal.loop-i-preserved
loop-i-preserved c =
    one_more (λ k. IsTagged c.ids_of-ids.result.now (rows_of c.split_first.result.0.now) (roses_of c.split_first.result.1.now) k) c.loop-i.i c.loop-i.invariant (c.is_tagged.ensures.0 c.if-not-is_tagged.false)

pub returns : goal.returns
returns c = (
  λ x. all_tagged (typ c.args.dtype.now) c.args.len (roses_of c.args.children.now) (roses_of c.split_first.result.1.now) c.split_first.result.0.now c.split_first.ensures c.loop-i.i (omega (arith, c.loop-i-test.false))
      (subst (λ (ids : List ℕ). (k : ℕ) → k < c.loop-i.i → IsTagged ids (rows_of c.split_first.result.0.now) (roses_of c.split_first.result.1.now) k) c.ids_of-ids.ensures c.loop-i.invariant),
  λ h. refl,
)
