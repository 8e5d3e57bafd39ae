use Rattle.std.proofs.Common.{◌≡◌, subst}
use Rattle.std.specs.Prelude.{IfOk, IfErr}
use Rattle.vx_types.specs.Seen.{typ}
use Rattle.vx_array_tree.specs.Tree.{Tree}
use Rattle.vx_registry.specs.Meaning.{session_meaning}
use Rattle.vx_wire_tree.specs.DecodesTo.{DecodesTo}
use Rattle.vx_encodings.specs.Messages.{codec}
use Rattle.vx_serialized.specs.declared.error.WireError.TheVariants.{OutOfMemory}
use Rattle.vx_serialized.specs.Serialized.{Serialized, wire_in}
use Rattle.vx_serialized.proofs.serialized.SerializedArray.decode.Goals as goal

pub returns-clause-one : goal.returns-clause-one
returns-clause-one g c =
    let s = session_meaning (λ b. (goal.ArrayPlugin-dyn g (b.vtable, b.value)).means b.value) (λ b. (goal.ExtPlugin-dyn g (b.vtable, b.value)).accepted b.value) c.args.session.now in
    let P : Serialized → Type 0 = λ a. (t : Tree) → DecodesTo codec s (wire_in c.args.ids.now a) (typ c.args.dtype.now) c.args.len t → IfOk c.decode.result (λ u. u ≡ t) × IfErr c.decode.result (λ e. e ≡ OutOfMemory) in
    subst P c.root.ensures c.decode.ensures.one
