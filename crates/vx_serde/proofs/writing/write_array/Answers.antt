use Rattle.std.proofs.Common.{arith, ◌≤◌, ◌∙◌, ap, sym, refl, subst}
use Rattle.std.proofs.lemmas.Result.{err_from_is_err_and, IfOk-weaker, IfErr-weaker}
use Rattle.vx_trees.specs.Walks.{levels}
use Rattle.vx_array_tree.specs.Tree.{Tree}
use Rattle.vx_wire_tree.specs.Limits.{HasMessages}
use Rattle.vx_wire_tree.specs.Wire.{ids_in}
use Rattle.vx_wire_tree.specs.Written.{wire}
use Rattle.vx_encodings.specs.Messages.{codec}
use Rattle.vx_registry.specs.Meaning.{arrays_meaning}
use Rattle.vx_serde.specs.Causes.{RefusesWriting}
use Rattle.vx_serde.specs.KeptContext.{KeepsContext}
use Rattle.vx_serde.specs.Limits.{most_levels}
use Rattle.vx_serde.specs.Serializing.{IsWrittenBlob}
use Rattle.vx_serde.specs.Taking.{as_written}
use Rattle.vx_serde.proofs.Growing.{kept-same}
use Rattle.vx_serialized.proofs.LawsOfAnswers.{ok_of}
use Rattle.vx_serde.proofs.Taking.{taken_as_own, taken_whole, is_taken_whole, untaken_whole, without_blob}
use Rattle.vx_serde.proofs.writing.write_array.Goals as goal

-- ---- whether primitives have two identifiers is not known

pub returns-in-Err-clause-kept : goal.returns-in-Err-clause-kept
returns-in-Err-clause-kept g c = λ x u. kept-same _ c.args.ctx.now c.args.ctx.now refl

pub returns-in-Err-clause-own : goal.returns-in-Err-clause-own
returns-in-Err-clause-own g c = λ x u ok. kept-same _ c.args.ctx.now c.args.ctx.now refl

pub returns-in-Err-clause-cause : goal.returns-in-Err-clause-cause
returns-in-Err-clause-cause g c = λ x u. tt

-- ---- its nodes are not taken

pub returns-in_err-node-clause-kept : goal.returns-in_err-node-clause-kept
returns-in_err-node-clause-kept g c = λ x u. kept-same _ c.args.ctx.now c.args.ctx.now refl

pub returns-in_err-node-clause-own : goal.returns-in_err-node-clause-own
returns-in_err-node-clause-own g c = λ x u ok. kept-same _ c.args.ctx.now c.args.ctx.now refl

pub returns-in_err-node-clause-cause : goal.returns-in_err-node-clause-cause
returns-in_err-node-clause-cause g c = λ x u.
    let s = arrays_meaning (λ b. (goal.ArrayPlugin-dyn g (b.vtable, b.value)).means b.value) c.args.arrays.now x in
    let p = err_from_is_err_and c.from_residual.result c.from_residual.ensures.1 in
    rw (p.1, p.2) (untaken_whole s c.args.options.now c.most_levels-room.result c.most_levels-room.ensures c.args.array.now c.args.ctx.now c.in_err-node.field-0.0 (c.in_err-node.ensures.cause x u))

-- ---- they are

pub write_taken-requires-clause-levels : goal.write_taken-requires-clause-levels
write_taken-requires-clause-levels g c = omega (arith, c.in_ok-node.ensures.levels, c.most_levels-room.ensures, ap (λ (z : Tree). levels z) c.taken-root.ensures)

pub write_taken-requires-clause-messages : goal.write_taken-requires-clause-messages
write_taken-requires-clause-messages g c = subst (λ (z : Tree). HasMessages z) (sym c.taken-root.ensures) c.in_ok-node.ensures.messages

pub returns-clause-made : goal.returns-clause-made
returns-clause-made g c = λ x u.
    let s = arrays_meaning (λ b. (goal.ArrayPlugin-dyn g (b.vtable, b.value)).means b.value) c.args.arrays.now x in
    let o = c.args.options.now in
    let t = c.args.array.now in
    let room = c.most_levels-room.result in
    let same = c.most_levels-room.ensures in
    IfOk-weaker c.write_taken.result _ _
    (λ bs y. record {
      taken = is_taken_whole s o room same t (c.in_ok-node.ensures.written x u);
      blob = subst (λ (z : Tree). IsWrittenBlob s z o c.args.ctx.now c.write_taken.new.ctx bs) (taken_whole s o room same t c.taken-root.result (c.taken-root.ensures ∙ c.in_ok-node.ensures.tree x u)) y;
    }) (c.write_taken.ensures.made s (c.in-Ok.ensures.two x))

pub returns-clause-kept : goal.returns-clause-kept
returns-clause-kept g c = λ x u.
    let s = arrays_meaning (λ b. (goal.ArrayPlugin-dyn g (b.vtable, b.value)).means b.value) c.args.arrays.now x in
    let whole = taken_whole s c.args.options.now c.most_levels-room.result c.most_levels-room.ensures c.args.array.now c.taken-root.result (c.taken-root.ensures ∙ c.in_ok-node.ensures.tree x u) in
    subst (λ (z : Tree). KeepsContext (ids_in (wire codec s z)) c.args.ctx.now c.write_taken.new.ctx) whole (c.write_taken.ensures.kept s (c.in-Ok.ensures.two x))

pub returns-clause-own : goal.returns-clause-own
returns-clause-own g c = λ x u ok.
    let s = arrays_meaning (λ b. (goal.ArrayPlugin-dyn g (b.vtable, b.value)).means b.value) c.args.arrays.now x in
    let few : levels c.taken-root.result ≤ c.most_levels-room.result = omega (arith, c.in_ok-node.ensures.levels, ap (λ (z : Tree). levels z) c.taken-root.ensures) in
    let own = taken_as_own s c.most_levels-room.result c.args.array.now c.taken-root.result ok (c.taken-root.ensures ∙ c.in_ok-node.ensures.tree x u) (c.in_ok-node.ensures.written x u) few in
    subst (λ (z : Tree). KeepsContext (ids_in (wire codec s z)) c.args.ctx.now c.write_taken.new.ctx) own (c.write_taken.ensures.kept s (c.in-Ok.ensures.two x))

pub returns-clause-cause : goal.returns-clause-cause
returns-clause-cause g c = λ x u.
    let s = arrays_meaning (λ b. (goal.ArrayPlugin-dyn g (b.vtable, b.value)).means b.value) c.args.arrays.now x in
    let o = c.args.options.now in
    let t = c.args.array.now in
    let room = c.most_levels-room.result in
    let same = c.most_levels-room.ensures in
    let whole = taken_whole s o room same t c.taken-root.result (c.taken-root.ensures ∙ c.in_ok-node.ensures.tree x u) in
    let taken = is_taken_whole s o room same t (c.in_ok-node.ensures.written x u) in
    let few : levels (as_written s o t) ≤ most_levels o = omega (arith, c.in_ok-node.ensures.levels, same, ap (λ (z : Tree). levels z) c.taken-root.ensures, ap (λ (z : Tree). levels z) whole) in
    IfErr-weaker c.write_taken.result _ _
    (λ e y. without_blob s c.args.options.now c.args.array.now c.args.ctx.now e taken few (subst (λ (z : Tree). RefusesWriting s z c.args.ctx.now c.args.options.now e) whole y)) (c.write_taken.ensures.cause s (c.in-Ok.ensures.two x))

pub returns-clause-paired : goal.returns-clause-paired
returns-clause-paired g c = λ x. ok_of c.write_taken.result _ (c.in-Ok.ensures.paired x)
