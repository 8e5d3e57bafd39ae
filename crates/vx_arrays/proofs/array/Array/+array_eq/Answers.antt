-- Arrays whose roots or children differ are not equal, and others are.
use Rattle.std.proofs.Common.{◌≡◌, length, arith, ap, sym, ◌∙◌}
use Rattle.std.proofs.lemmas.Bool.{iff_false}
use Rattle.vx_arrays.proofs.Comparing.{decides_no, decides_yes, more_same, root_of_same, as_many, differ_at, same_of_all}
use Rattle.vx_arrays.specs.Compared.{compared}
use Rattle.vx_arrays.proofs.array.Array.+array_eq.Goals as goal

pub returns-then-not-has_root_of : goal.returns-then-not-has_root_of
returns-then-not-has_root_of t c = decides_no (λ e. iff_false c.has_root_of.ensures c.if-not-has_root_of.true (root_of_same c.args.self.now c.args.other.now e))

pub bounds-others-i : goal.bounds-others-i
bounds-others-i t c =
    let l : length c.children-children.result.now ≡ length c.children-others.result.now =
    as_many c.args.self.now c.args.other.now c.children-children.result.now c.children-others.result.now c.children-children.ensures.children c.children-others.ensures.children (c.has_root_of.ensures.0 c.if-not-has_root_of.false).1 in
    omega (arith, l, c.loop-i-test.true)

pub returns-then-not-array_eq : goal.returns-then-not-array_eq
returns-then-not-array_eq t c =
    let l : length c.children-children.result.now ≡ length c.children-others.result.now =
    as_many c.args.self.now c.args.other.now c.children-children.result.now c.children-others.result.now c.children-children.ensures.children c.children-others.ensures.children (c.has_root_of.ensures.0 c.if-not-has_root_of.false).1 in
    decides_no
    (differ_at c.args.self.now c.args.other.now c.children-children.result.now c.children-others.result.now c.children-children.ensures.children c.children-others.ensures.children c.loop-i.i c.index-children-i.result
    c.index-others-i.result c.loop-i-test.true (omega (arith, l, c.loop-i-test.true)) c.index-children-i.is c.index-others-i.is (iff_false c.array_eq.ensures c.if-not-array_eq.true))

pub loop-i-preserved : goal.loop-i-preserved
loop-i-preserved t c =
    let l : length c.children-children.result.now ≡ length c.children-others.result.now =
    as_many c.args.self.now c.args.other.now c.children-children.result.now c.children-others.result.now c.children-children.ensures.children c.children-others.ensures.children (c.has_root_of.ensures.0 c.if-not-has_root_of.false).1 in
    more_same compared c.children-children.result.now c.children-others.result.now c.loop-i.i c.index-children-i.result c.index-others-i.result c.loop-i-test.true (omega (arith, l, c.loop-i-test.true)) c.loop-i.invariant
    (ap compared (sym c.index-children-i.is) ∙ c.array_eq.ensures.0 c.if-not-array_eq.false ∙ ap compared c.index-others-i.is)

pub returns : goal.returns
returns t c =
    let root = c.has_root_of.ensures.0 c.if-not-has_root_of.false in
    let l : length c.children-children.result.now ≡ length c.children-others.result.now =
    as_many c.args.self.now c.args.other.now c.children-children.result.now c.children-others.result.now c.children-children.ensures.children c.children-others.ensures.children root.1 in
    decides_yes
    (same_of_all c.args.self.now c.args.other.now c.children-children.result.now c.children-others.result.now c.children-children.ensures.children c.children-others.ensures.children c.loop-i.i l
    (omega (arith, c.loop-i-test.false)) root.0 c.loop-i.invariant)
