use Rattle.std.proofs.Common.{◌≡◌, ◌≤◌, ◌-◌, ◌++◌, ◌∷◌, [], length, Some, None, arith, refl, sym, ap, ◌∙◌, subst}
use Rattle.std.specs.Prelude.{slice_get}
use Rattle.std.proofs.lemmas.List.{take_all}
use Rattle.std.proofs.lemmas.Result.{err_from_is_err_and}
use Rattle.vx_trees.specs.Rose.{count, node, roses_of, roses_list}
use Rattle.vx_trees.proofs.Lists.{length-roses_list}
use Rattle.vx_types.specs.Known.{ExtMeaning}
use Rattle.vx_array_tree.specs.Tree.{places}
use Rattle.vx_registry.specs.Meaning.{arrays_meaning}
use Rattle.vx_serde.specs.contracts.taken.fill.{dyn-1-ghosts}
use Rattle.vx_serde.specs.declared.taken.TakenRoot.{TakenRoot}
use Rattle.vx_serde.specs.Taking.{source_tree, root_node, root_arrays, IsOwn, AreTaken, AreWithinLevels, IsRootAt, RefusesOneOf}
use Rattle.vx_serde.proofs.TakenBelow.{none_within, one_more_within, one_more_taken, whole_taken, stands_below, node_levels, node_messages, node_taken, node_is_taken, filled_not, of_ok, own_tree, one_more_own}
use Rattle.vx_serde.proofs.taken.+fill.Goals as goal

pub loop-i-init : goal.loop-i-init
loop-i-init g t c = record {
  root = refl;
  taken = λ x u. record { made = c.requires.none; written_each = tt };
  within = none_within c.args.room c.args.above.now.children.items c.requires.none;
  own = λ _. c.requires.none;
}

pub child-requires : goal.child-requires
child-requires g t c = omega (arith, c.nchildren-i-end.ensures, c.loop-i-test.true, ap (λ (r : TakenRoot). count (root_arrays r)) c.loop-i.invariant.root)

pub returns-in_err-child : goal.returns-in_err-child
returns-in_err-child g t c =
    let p = err_from_is_err_and c.from_residual.result c.from_residual.ensures.1 in
    rw (p.1, p.2)
    (record {
      root = c.loop-i.invariant.root;
      taken = λ x u. tt;
      within = tt;
      own = tt;
      cause = λ x u.
          let s = arrays_meaning (λ b. ((dyn-1-ghosts g.dyn-1).0.entry b.vtable).1.means b.value) c.args.arrays.now x in
          subst (λ (r : TakenRoot). RefusesOneOf s c.args.room (root_arrays r) c.in_err-child.field-0.0) c.loop-i.invariant.root (c.in_err-child.ensures.cause x u);
    })

pub fill-filled-requires : goal.fill-filled-requires
fill-filled-requires g t c = (omega (arith, c.in_ok-child.ensures.room, c.decreases), c.in_ok-child.ensures.none)

pub close-requires : goal.close-requires
close-requires g t c = record {
  places = λ ok.
      let x : ExtMeaning = record { reader = λ id. None; unknown = c.args.unknown } in
      let s = arrays_meaning (λ b. ((dyn-1-ghosts g.dyn-1).0.entry b.vtable).1.means b.value) c.args.arrays.now x in
      let us = c.fill-filled.new.above.children.items in
      subst (λ (r : TakenRoot). places (roses_of us) ≡ places (root_arrays r)) (sym c.fill-filled.ensures.root)
      (stands_below s (c.args.room - 1) (root_arrays c.in_ok-child.child.root) us (of_ok c.fill-filled.result _ ok (c.fill-filled.ensures.taken x refl)));
  own = λ ok o.
      let us = c.fill-filled.new.above.children.items in
      subst (λ (r : TakenRoot). us ≡ roses_list (root_arrays r)) (sym c.fill-filled.ensures.root) (of_ok c.fill-filled.result _ ok c.fill-filled.ensures.own o);
}

pub returns-in_err-close : goal.returns-in_err-close
returns-in_err-close g t c =
    let p = err_from_is_err_and c.from_residual-in_err-close.result c.from_residual-in_err-close.ensures.1 in
    rw (p.1, p.2)
    (record {
      root = c.close.ensures.root ∙ c.loop-i.invariant.root;
      taken = λ x u. tt;
      within = tt;
      own = tt;
      cause = λ x u.
          let s = arrays_meaning (λ b. ((dyn-1-ghosts g.dyn-1).0.entry b.vtable).1.means b.value) c.args.arrays.now x in
          let child = c.in_ok-child.child.root in
          let opened = subst (λ (r : TakenRoot). IsRootAt s (root_arrays r) c.loop-i.i (root_node child) (root_arrays child)) c.loop-i.invariant.root (c.in_ok-child.ensures.opened x u) in
          filled_not s c.args.room c.in_ok-child.ensures.room (root_arrays c.args.above.now.root) c.loop-i.i (root_node child) (root_arrays child) opened c.fill-filled.result c.in_err-close.field-0.0 (c.fill-filled.ensures.cause x u) c.in_err-close.ensures.cause;
    })

pub loop-i-preserved : goal.loop-i-preserved
loop-i-preserved g t c =
    let child = c.in_ok-child.child.root in
    let us = c.fill-filled.new.above.children.items in
    let u = node (root_node child) (roses_of us) in
    let ok = c.in_ok-close.ensures.well in
    let more : c.close.new.self.children.items ≡ c.loop-i.above.children.items ++ u ∷ [] =
    subst (λ (r : TakenRoot). c.close.new.self.children.items ≡ c.loop-i.above.children.items ++ node (root_node r) (roses_of us) ∷ []) c.fill-filled.ensures.root c.in_ok-close.ensures.children
    in
    let within = of_ok c.fill-filled.result (AreWithinLevels (c.args.room - 1) us) ok c.fill-filled.ensures.within in
    let any : ExtMeaning = record { reader = λ id. None; unknown = c.args.unknown } in
    let m = arrays_meaning (λ b. ((dyn-1-ghosts g.dyn-1).0.entry b.vtable).1.means b.value) c.args.arrays.now any in
    record {
      root = c.close.ensures.root ∙ c.loop-i.invariant.root;
      taken = λ x q.
          let s = arrays_meaning (λ b. ((dyn-1-ghosts g.dyn-1).0.entry b.vtable).1.means b.value) c.args.arrays.now x in
          let o = subst (λ (r : TakenRoot). IsRootAt s (root_arrays r) c.loop-i.i (root_node child) (root_arrays child)) c.loop-i.invariant.root (c.in_ok-child.ensures.opened x q) in
          let below = of_ok c.fill-filled.result (AreTaken s (c.args.room - 1) (roses_list (root_arrays child)) us) ok (c.fill-filled.ensures.taken x q) in
          one_more_taken s c.args.room (roses_list (root_arrays c.args.above.now.root)) c.loop-i.i o.array c.loop-i.above.children.items c.close.new.self.children.items u o.stands (c.loop-i.invariant.taken x q)
          (node_taken s c.args.room c.in_ok-child.ensures.room o.array (root_node child) (root_arrays child) o.step_is us below) (node_is_taken s c.args.room c.in_ok-child.ensures.room o.array (root_node child) (root_arrays child) o.step_is us below) more;
      within =
          one_more_within c.args.room c.loop-i.above.children.items c.close.new.self.children.items u c.loop-i.invariant.within (node_levels c.args.room (root_node child) us c.in_ok-child.ensures.room within)
          (node_messages m (c.args.room - 1) (root_arrays child) us (of_ok c.fill-filled.result (AreTaken m (c.args.room - 1) (roses_list (root_arrays child)) us) ok (c.fill-filled.ensures.taken any refl)) (root_node child) c.in_ok-child.ensures.message within)
          more;
      own = λ o.
          let k = c.in_ok-close.ensures.own o in
          let ts = roses_list (root_arrays c.args.above.now.root) in
          let stands = subst (λ (r : TakenRoot). slice_get (roses_list (root_arrays r)) c.loop-i.i ≡ Some (source_tree child.source)) c.loop-i.invariant.root c.in_ok-child.ensures.stands in
          one_more_own ts c.loop-i.i (source_tree child.source) c.loop-i.above.children.items c.close.new.self.children.items u stands (c.loop-i.invariant.own k.0) (own_tree child us (subst (λ (r : TakenRoot). IsOwn r us) c.fill-filled.ensures.root k.1)) more;
    }

pub returns : goal.returns
returns g t c =
    let ts = root_arrays c.args.above.now.root in
    let past : length (roses_list ts) ≤ c.loop-i.i = omega (arith, length-roses_list ts, c.nchildren-i-end.ensures, c.loop-i-test.false) in
    record {
      root = c.loop-i.invariant.root;
      taken = λ x u.
          whole_taken (arrays_meaning (λ b. ((dyn-1-ghosts g.dyn-1).0.entry b.vtable).1.means b.value) c.args.arrays.now x) c.args.room (roses_list ts) c.loop-i.i c.loop-i.above.children.items past (c.loop-i.invariant.taken x u);
      within = c.loop-i.invariant.within;
      own = λ o. c.loop-i.invariant.own o ∙ take_all c.loop-i.i (roses_list ts) past;
      cause = λ x u. tt;
    }
