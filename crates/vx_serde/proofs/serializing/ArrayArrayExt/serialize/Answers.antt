use Rattle.std.proofs.Common.{sym}
use Rattle.std.proofs.lemmas.Result.{IfOk-weaker, IfErr-weaker}
use Rattle.vx_type_wire.specs.Session.{ext_meaning}
use Rattle.vx_registry.specs.Meaning.{session_meaning}
use Rattle.vx_registry.proofs.LawsSessions.{session_lawful}
use Rattle.vx_serde.proofs.MessageBlocks.{if_ok_where}
use Rattle.vx_serde.proofs.Taking.{refused_own}
use Rattle.vx_serde.proofs.WrittenAgain.{serialized_again}
use Rattle.vx_serde.proofs.WrittenOwn.{serialized_back, serialized_own}
use Rattle.vx_serde.proofs.serializing.ArrayArrayExt.serialize.Goals as goal

pub returns-clause-made : goal.returns-clause-made
returns-clause-made g c = c.write_array.ensures.made (ext_meaning (λ b. (goal.ExtPlugin-dyn g (b.vtable, b.value)).accepted b.value) c.args.session.now.ext) (sym c.allows_unknown-unknown.ensures)

pub returns-clause-returned : goal.returns-clause-returned
returns-clause-returned g c =
    let x = ext_meaning (λ b. (goal.ExtPlugin-dyn g (b.vtable, b.value)).accepted b.value) c.args.session.now.ext in
    let s = session_meaning (λ b. (goal.ArrayPlugin-dyn g (b.vtable, b.value)).means b.value) (λ b. (goal.ExtPlugin-dyn g (b.vtable, b.value)).accepted b.value) c.args.session.now in
    let law = session_lawful (λ b. (goal.ArrayPlugin-dyn g (b.vtable, b.value)).means b.value) c.args.session.now.arrays x in
    if_ok_where c.write_array.result _ _ _
    (λ paired bs made r. serialized_again s law paired c.args.self.now c.args.ctx.now c.write_array.new.ctx c.args.options.now bs made r) (c.write_array.ensures.paired x) (c.write_array.ensures.made x (sym c.allows_unknown-unknown.ensures))

pub returns-clause-read_back : goal.returns-clause-read_back
returns-clause-read_back g c = λ ok.
    let x = ext_meaning (λ b. (goal.ExtPlugin-dyn g (b.vtable, b.value)).accepted b.value) c.args.session.now.ext in
    let s = session_meaning (λ b. (goal.ArrayPlugin-dyn g (b.vtable, b.value)).means b.value) (λ b. (goal.ExtPlugin-dyn g (b.vtable, b.value)).accepted b.value) c.args.session.now in
    let law = session_lawful (λ b. (goal.ArrayPlugin-dyn g (b.vtable, b.value)).means b.value) c.args.session.now.arrays x in
    if_ok_where c.write_array.result _ _ _
    (λ paired bs made again. serialized_back s ok law paired c.args.self.now c.args.options.now c.args.ctx.now c.write_array.new.ctx bs made again) (c.write_array.ensures.paired x) (c.write_array.ensures.made x (sym c.allows_unknown-unknown.ensures))

pub returns-clause-unchanged : goal.returns-clause-unchanged
returns-clause-unchanged g c = λ ok.
    let x = ext_meaning (λ b. (goal.ExtPlugin-dyn g (b.vtable, b.value)).accepted b.value) c.args.session.now.ext in
    let s = session_meaning (λ b. (goal.ArrayPlugin-dyn g (b.vtable, b.value)).means b.value) (λ b. (goal.ExtPlugin-dyn g (b.vtable, b.value)).accepted b.value) c.args.session.now in
    IfOk-weaker c.write_array.result _ _
    (λ bs made. serialized_own s c.args.self.now c.args.options.now c.args.ctx.now c.write_array.new.ctx bs ok made) (c.write_array.ensures.made x (sym c.allows_unknown-unknown.ensures))

pub returns-clause-left : goal.returns-clause-left
returns-clause-left g c = c.write_array.ensures.kept (ext_meaning (λ b. (goal.ExtPlugin-dyn g (b.vtable, b.value)).accepted b.value) c.args.session.now.ext) (sym c.allows_unknown-unknown.ensures)

pub returns-clause-own : goal.returns-clause-own
returns-clause-own g c = c.write_array.ensures.own (ext_meaning (λ b. (goal.ExtPlugin-dyn g (b.vtable, b.value)).accepted b.value) c.args.session.now.ext) (sym c.allows_unknown-unknown.ensures)

pub returns-clause-cause : goal.returns-clause-cause
returns-clause-cause g c = c.write_array.ensures.cause (ext_meaning (λ b. (goal.ExtPlugin-dyn g (b.vtable, b.value)).accepted b.value) c.args.session.now.ext) (sym c.allows_unknown-unknown.ensures)

pub returns-clause-cause_own : goal.returns-clause-cause_own
returns-clause-cause_own g c = λ ok w.
    let x = ext_meaning (λ b. (goal.ExtPlugin-dyn g (b.vtable, b.value)).accepted b.value) c.args.session.now.ext in
    let s = session_meaning (λ b. (goal.ArrayPlugin-dyn g (b.vtable, b.value)).means b.value) (λ b. (goal.ExtPlugin-dyn g (b.vtable, b.value)).accepted b.value) c.args.session.now in
    IfErr-weaker c.write_array.result _ _
    (λ e u. refused_own s ok c.args.self.now c.args.ctx.now c.args.options.now e w u) (c.write_array.ensures.cause x (sym c.allows_unknown-unknown.ensures))
