use Rattle.std.proofs.Common.{◌≡◌, None, arith, refl, sym, ap, ◌∙◌, subst}
use Rattle.std.proofs.lemmas.Result.{err_from_is_err_and}
use Rattle.vx_trees.specs.Rose.{node, roses_of, roses_list}
use Rattle.vx_trees.specs.Walks.{levels}
use Rattle.vx_types.specs.Known.{ExtMeaning}
use Rattle.vx_array_tree.specs.Tree.{places}
use Rattle.vx_wire_tree.specs.Limits.{HasMessages}
use Rattle.vx_registry.specs.Meaning.{arrays_meaning}
use Rattle.vx_serde.specs.declared.taken.TakenRoot.{TakenRoot}
use Rattle.vx_serde.specs.Taking.{source_tree, root_node, root_arrays}
use Rattle.vx_serde.proofs.TakenBelow.{stands_below, node_levels, node_messages, node_taken, node_is_taken, root_refused_below}
use Rattle.vx_serde.proofs.Taking.{wanted}
use Rattle.vx_serde.proofs.taken.take.Goals as goal

pub returns-in_err-above : goal.returns-in_err-above
returns-in_err-above g c =
    let p = err_from_is_err_and c.from_residual.result c.from_residual.ensures.1 in
    rw (p.1, p.2)
    (record { tree = λ x u. tt; written = λ x u. tt; levels = tt; messages = tt; cause = λ x u. c.in_err-above.ensures.cause x u })

pub fill-requires : goal.fill-requires
fill-requires g c = record { none = c.in_ok-above.ensures.none }

pub closed-requires : goal.closed-requires
closed-requires g c = record {
  places =
      let x : ExtMeaning = record { reader = λ id. None; unknown = c.args.unknown } in
      let us = c.fill.new.above.children.items in
      subst (λ (r : TakenRoot). places (roses_of us) ≡ places (root_arrays r)) (sym c.fill.ensures.root)
      (stands_below (arrays_meaning (λ b. (goal.ArrayPlugin-dyn g (b.vtable, b.value)).means b.value) c.args.arrays.now x) _ (root_arrays c.in_ok-above.above.root) us (c.in-Ok.ensures.taken x refl));
  own = λ o.
      let us = c.fill.new.above.children.items in
      subst (λ (r : TakenRoot). us ≡ roses_list (root_arrays r)) (sym c.fill.ensures.root) (c.in-Ok.ensures.own o);
}

pub returns-in_err-node-in-Ok : goal.returns-in_err-node-in-Ok
returns-in_err-node-in-Ok g c =
    let p = err_from_is_err_and c.from_residual-in_err-node-in-Ok.result c.from_residual-in_err-node-in-Ok.ensures.1 in
    rw (p.1, p.2)
    (record {
      tree = λ x u. tt;
      written = λ x u. tt;
      levels = tt;
      messages = tt;
      cause = λ x u. wanted (arrays_meaning (λ b. (goal.ArrayPlugin-dyn g (b.vtable, b.value)).means b.value) c.args.arrays.now x) c.args.room (source_tree c.args.source) c.in_err-node-in-Ok.field-0.0 c.in_err-node-in-Ok.ensures.err;
    })

pub returns-in_ok-node-in-Ok : goal.returns-in_ok-node-in-Ok
returns-in_ok-node-in-Ok g c =
    let root = c.in_ok-above.above.root in
    let us = c.fill.new.above.children.items in
    let is = subst (λ (r : TakenRoot). c.in_ok-node-in-Ok.node ≡ node (root_node r) (roses_of us)) c.fill.ensures.root c.in_ok-node-in-Ok.ensures.ok in
    let any : ExtMeaning = record { reader = λ id. None; unknown = c.args.unknown } in
    let m = arrays_meaning (λ b. (goal.ArrayPlugin-dyn g (b.vtable, b.value)).means b.value) c.args.arrays.now any in
    record {
      tree = λ x u.
          is
          ∙ node_taken (arrays_meaning (λ b. (goal.ArrayPlugin-dyn g (b.vtable, b.value)).means b.value) c.args.arrays.now x) c.args.room c.in_ok-above.ensures.room (source_tree c.args.source) (root_node root) (root_arrays root) (c.in_ok-above.ensures.step x u) us (c.in-Ok.ensures.taken x u);
      written = λ x u.
          node_is_taken (arrays_meaning (λ b. (goal.ArrayPlugin-dyn g (b.vtable, b.value)).means b.value) c.args.arrays.now x) c.args.room c.in_ok-above.ensures.room (source_tree c.args.source) (root_node root) (root_arrays root) (c.in_ok-above.ensures.step x u) us (c.in-Ok.ensures.taken x u);
      levels = omega (arith, node_levels c.args.room (root_node root) us c.in_ok-above.ensures.room c.in-Ok.ensures.within, ap (λ z. levels z) is);
      messages = subst (λ z. HasMessages z) (sym is) (node_messages m _ (root_arrays root) us (c.in-Ok.ensures.taken any refl) (root_node root) c.in_ok-above.ensures.message c.in-Ok.ensures.within);
      cause = λ x u. tt;
    }

pub returns-in-Err : goal.returns-in-Err
returns-in-Err g c = record {
  tree = λ x u. tt;
  written = λ x u. tt;
  levels = tt;
  messages = tt;
  cause = λ x u.
      root_refused_below (arrays_meaning (λ b. (goal.ArrayPlugin-dyn g (b.vtable, b.value)).means b.value) c.args.arrays.now x) c.args.room c.in_ok-above.ensures.room (source_tree c.args.source) (root_node c.in_ok-above.above.root) (root_arrays c.in_ok-above.above.root) (c.in_ok-above.ensures.step x u)
      c.in-Err.e (c.in-Err.ensures.cause x u);
}
