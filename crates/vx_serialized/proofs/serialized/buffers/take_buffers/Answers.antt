use Rattle.std.proofs.Common.{◌≡◌, ◌+◌, suc, ap, ◌∙◌, arith, subst, add-one, length, Option}
use Rattle.vx_buffer.specs.Buffer.{Buffer}
use Rattle.vx_serialized.specs.Message.{descriptors_of, place_behind}
use Rattle.vx_serialized.specs.Overrides.{overrides_in, buffers_with, buffer_with, IsCleanAt, AreCleanWith, RefusesOne}
use Rattle.vx_serialized.proofs.OverriddenBuffers.{buffers-more, clean-more, refused-more}
use Rattle.vx_serialized.proofs.serialized.buffers.take_buffers.Goals as goal

pub loop-descriptor-preserved : goal.loop-descriptor-preserved
loop-descriptor-preserved c =
    let given = overrides_in c.args.overrides.now in
    let segment = c.args.segment.now.bytes in
    let n = length segment in
    let i = c.loop-descriptor.number in
    let p = c.loop-descriptor.place in
    let d = c.in-Some.descriptor in
    let ds = descriptors_of c.loop-descriptor.left.now in
    let rest = descriptors_of c.in-Some.rest.now in
    let all = descriptors_of c.args.descriptors.now in
    let next : i + 1 ≡ suc i = add-one i in
    let behind : p + (d.padding + d.len) ≡ place_behind p d = omega arith in
    let inv = c.loop-descriptor.invariant in
    let own = c.in_ok-buffer.ensures.ok ∙ ap (λ o. buffer_with o segment p d) c.override_at-given.ensures in
    let C : Option Buffer → Type 0 = λ o. IsCleanAt o n p d in
    let clean = subst C c.override_at-given.ensures c.in_ok-buffer.ensures.clean in (
      buffers-more given i p ds rest d c.in-Some.ensures.some (i + 1) (p + (d.padding + d.len)) next behind segment c.loop-descriptor.buffers c.push.new.self (buffers_with given segment 0 0 all) c.in_ok-buffer.buffer inv.0 own c.in_ok-push.ensures.ok,
      λ others. clean-more given i p ds rest d c.in-Some.ensures.some (i + 1) (p + (d.padding + d.len)) next behind n (AreCleanWith given n 0 0 all) inv.1 clean others,
      λ e others. refused-more given i p ds rest d c.in-Some.ensures.some (i + 1) (p + (d.padding + d.len)) next behind n e (RefusesOne e given n 0 0 all) (inv.2 e) others,
      omega (arith, inv.3, c.in-Some.ensures.shorter),
      omega (arith, inv.4, c.in-Some.ensures.narrow),
    )
