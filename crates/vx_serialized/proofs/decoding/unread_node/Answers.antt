use Rattle.std.proofs.Common.{sym, ◌∙◌}
use Rattle.std.proofs.lemmas.Result.{IfOk-weaker, IfErr-weaker}
use Rattle.vx_types.specs.Seen.{typ}
use Rattle.vx_wire_tree.proofs.Laws.{kept_decodes}
use Rattle.vx_encodings.specs.Messages.{codec}
use Rattle.vx_registry.specs.Meaning.{session_meaning}
use Rattle.vx_serialized.specs.Serialized.{wire_in}
use Rattle.vx_serialized.proofs.NodeTold.{caused_by_reader, caused_by_keeping}
use Rattle.vx_serialized.proofs.decoding.unread_node.Goals as goal

pub returns-then-not-allows_unknown-clause-cause : goal.returns-then-not-allows_unknown-clause-cause
returns-then-not-allows_unknown-clause-cause g c =
    let s = session_meaning (λ b. (goal.ArrayPlugin-dyn g (b.vtable, b.value)).means b.value) (λ b. (goal.ExtPlugin-dyn g (b.vtable, b.value)).accepted b.value) c.args.session.now in
    caused_by_reader s (wire_in c.args.ids.now c.args.node.now) (typ c.args.dtype.now) c.args.len c.args.id.now c.requires.named c.requires.unread
    (sym c.allows_unknown.ensures ∙ c.if-not-allows_unknown.true)

pub returns-clause-told : goal.returns-clause-told
returns-clause-told g c =
    let s = session_meaning (λ b. (goal.ArrayPlugin-dyn g (b.vtable, b.value)).means b.value) (λ b. (goal.ExtPlugin-dyn g (b.vtable, b.value)).accepted b.value) c.args.session.now in
    IfOk-weaker c.keep_node.result _ _
    (λ t kept. kept_decodes codec s c.args.id.now (wire_in c.args.ids.now c.args.node.now) (typ c.args.dtype.now) c.args.len t c.requires.named c.requires.unread
    (sym c.allows_unknown.ensures ∙ c.if-not-allows_unknown.false) kept) c.keep_node.ensures.kept

pub returns-clause-cause : goal.returns-clause-cause
returns-clause-cause g c =
    let s = session_meaning (λ b. (goal.ArrayPlugin-dyn g (b.vtable, b.value)).means b.value) (λ b. (goal.ExtPlugin-dyn g (b.vtable, b.value)).accepted b.value) c.args.session.now in
    IfErr-weaker c.keep_node.result _ _
    (λ e y. caused_by_keeping s e (wire_in c.args.ids.now c.args.node.now) (typ c.args.dtype.now) c.args.len y) c.keep_node.ensures.cause
