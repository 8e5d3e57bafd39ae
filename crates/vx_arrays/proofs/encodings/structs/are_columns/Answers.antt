-- Columns are right where there are as many as types, and each is.
use Rattle.std.proofs.Common.{◌<◌, ◌∙◌, sym, ap, length, arith}
use Rattle.std.proofs.lemmas.Bool.{iff_false, false≢true}
use Rattle.vx_types.specs.Seen.{typ}
use Rattle.vx_types.specs.declared.dtype.DType.{DType}
use Rattle.vx_array_tree.specs.Place.{place}
use Rattle.vx_array_tree.specs.Tree.{Tree, array_place}
use Rattle.vx_arrays.proofs.Columns.{columns-more, columns-at, columns-length}
use Rattle.vx_arrays.proofs.encodings.structs.are_columns.Goals as goal

pub returns-then-types-columns : goal.returns-then-types-columns
returns-then-types-columns c = (
  λ x. absurd (false≢true x),
  λ h. absurd (c.if-types-columns.true (columns-length c.args.types.now c.args.columns.now c.args.len h)),
)

pub returns-then-not-stands_at : goal.returns-then-not-stands_at
returns-then-not-stands_at c =
    let d = c.index-types-i.result in
    let u = c.index-columns-i.result in
    let l : c.loop-i.i < length c.args.types.now = c.loop-i-test.true in
    let k : c.loop-i.i < length c.args.columns.now = omega (arith, l, c.if-types-columns.false) in (
      λ x. absurd (false≢true x),
      λ h. absurd (iff_false c.stands_at.ensures c.if-not-stands_at.true
          (ap (λ (t : Tree). array_place t) c.index-columns-i.is ∙ columns-at c.args.types.now c.args.columns.now c.args.len c.loop-i.i d u l k h ∙ ap (λ (e : DType). place (typ e) c.args.len) (sym c.index-types-i.is))),
    )

pub loop-i-preserved : goal.loop-i-preserved
loop-i-preserved c =
    let d = c.index-types-i.result in
    let u = c.index-columns-i.result in
    let l : c.loop-i.i < length c.args.types.now = c.loop-i-test.true in
    let k : c.loop-i.i < length c.args.columns.now = omega (arith, l, c.if-types-columns.false) in
    columns-more c.args.types.now c.args.columns.now c.args.len c.loop-i.i d u l k c.loop-i.invariant
    (ap (λ (t : Tree). array_place t) (sym c.index-columns-i.is) ∙ c.stands_at.ensures.0 c.if-not-stands_at.false ∙ ap (λ (e : DType). place (typ e) c.args.len) c.index-types-i.is)
