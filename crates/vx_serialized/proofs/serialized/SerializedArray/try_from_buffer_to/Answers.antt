use Rattle.std.proofs.Common.{ℕ, List, ◌≡◌, ap, ◌∙◌, subst}
use Rattle.std.specs.Prelude.{IfOk, IfErr}
use Rattle.vx_buffer.specs.Buffer.{Buffer}
use Rattle.vx_flat.specs.Limits.{limits_to}
use Rattle.vx_serialized.specs.Blob.{IsBlob, AreClean, buffers_at}
use Rattle.vx_serialized.specs.Overrides.{no_override}
use Rattle.vx_serialized.specs.Stored.{IsMessageOf, RefusesSegment}
use Rattle.vx_serialized.proofs.StoredMessages.{segment_is, message_is, is_blob_of, blob_cause}
use Rattle.vx_serialized.proofs.serialized.SerializedArray.try_from_buffer_to.Goals as goal
use Rattle.vx_serialized.proofs.serialized.SerializedArray.try_from_buffer_to.Goals.{Joined-blob-4}

-- The two parts of the blob.
parts : (c : Joined-blob-4) → IsBlob c.args.blob.bytes c.in-Some.segment.now c.in-Some.message.now
parts c = rw c.as_slice.ensures at c.in-Some.ensures.some

segment : (c : Joined-blob-4) → c.new_host.result.bytes ≡ c.in-Some.segment.now
segment c = ap (λ (b : Buffer). b.bytes) c.new_host.ensures ∙ c.in_ok-segment.ensures.bytes ∙ segment_is c.args.blob.bytes c.in-Some.segment.now c.in-Some.message.now (parts c)

message : (c : Joined-blob-4) → c.in_ok-message.message.bytes ≡ c.in-Some.message.now
message c = c.in_ok-message.ensures.bytes ∙ message_is c.args.blob.bytes c.in-Some.segment.now c.in-Some.message.now (parts c)

pub returns-clause-opened : goal.returns-clause-opened
returns-clause-opened c =
    let r = c.over_segment.result in
    let T : List ℕ → Type 0 = λ m. IfOk r (IsMessageOf (limits_to c.args.deep) m) in
    let B : List ℕ → Type 0 = λ s. IfOk r (λ a. a.buffers ≡ buffers_at s 0 a.descriptors) in
    let C : List ℕ → Type 0 = λ s. IfOk r (λ a. AreClean s a.descriptors) in
    is_blob_of c.args.blob.bytes c.in-Some.segment.now c.in-Some.message.now (parts c) (limits_to c.args.deep) r (subst T (message c) c.over_segment.ensures.message)
    (subst B (segment c) c.over_segment.ensures.buffers) (subst C (segment c) c.over_segment.ensures.clean)

pub returns-clause-cause : goal.returns-clause-cause
returns-clause-cause c =
    let r = c.over_segment.result in
    let T : List ℕ → Type 0 = λ m. IfErr r (λ e. RefusesSegment (limits_to c.args.deep) e no_override c.new_host.result.bytes m) in
    let S : List ℕ → Type 0 = λ s. IfErr r (λ e. RefusesSegment (limits_to c.args.deep) e no_override s c.in-Some.message.now) in
    blob_cause c.args.blob.bytes c.in-Some.segment.now c.in-Some.message.now (parts c) (limits_to c.args.deep) r (subst S (segment c) (subst T (message c) c.over_segment.ensures.cause))
