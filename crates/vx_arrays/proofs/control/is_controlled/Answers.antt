-- That is known exactly where each child that is a control child is, and the entries of maps are.
use Rattle.std.proofs.Common.{ℕ, ◌≡◌, ◌∙◌, length, sym, true}
use Rattle.std.proofs.lemmas.Bool.{false≢true, iff_false}
use Rattle.vx_types.specs.Seen.{typ}
use Rattle.vx_array_tree.specs.Table.{encoding_of, is_control}
use Rattle.vx_arrays.specs.Plain.{plain_body}
use Rattle.vx_arrays.proofs.Comparing.{decides_no, decides_yes}
use Rattle.vx_arrays.proofs.Controlled.{all_known, known_more, known_past, one_foreign}
use Rattle.vx_arrays.proofs.control.is_controlled.Goals as goal
use Rattle.vx_arrays.proofs.control.is_controlled.Goals.{else-is_control-via-then-is_control+else-not-has_no_foreign, else-is_control-via-else-is_control}

pub loop-i-preserved : goal.loop-i-preserved
loop-i-preserved c =
    let f = λ (j : ℕ). is_control (encoding_of (plain_body c.args.body.now)) (typ c.args.dtype.now) (length c.args.children.now) j in
    elim c.else-is_control.branch [
      | else-is_control-via-then-is_control+else-not-has_no_foreign w ↦
          known_more f c.args.children.now c.loop-i.i w.index-children-i.result w.index-children-i.is c.loop-i.invariant (λ k. w.has_no_foreign.ensures.0 w.if-not-has_no_foreign.false)
      | else-is_control-via-else-is_control w ↦ known_past f c.args.children.now c.loop-i.i c.loop-i.invariant (λ (k : f c.loop-i.i ≡ true). false≢true (sym w.if-is_control.false ∙ c.is_control.ensures ∙ k))
    ]

pub returns-then-not-has_no_foreign : goal.returns-then-not-has_no_foreign
returns-then-not-has_no_foreign c =
    decides_no
    (one_foreign (typ c.args.dtype.now) c.args.len (plain_body c.args.body.now) c.args.children.now c.loop-i.i c.index-children-i.result c.loop-i-test.true c.index-children-i.is
    (sym c.is_control.ensures ∙ c.if-is_control.true) (iff_false c.has_no_foreign.ensures c.if-not-has_no_foreign.true))

pub returns : goal.returns
returns c =
    decides_yes
    (all_known (typ c.args.dtype.now) c.args.len (plain_body c.args.body.now) c.args.children.now c.loop-i.i c.loop-i-test.false
    (c.has_native_entries.ensures.0 c.if-not-has_native_entries.false) c.loop-i.invariant)
