use Rattle.std.proofs.Common.{◌≡◌, sym, subst}
use Rattle.vx_proto.specs.Value.{Value}
use Rattle.vx_type_wire.specs.Known.{ExtMeaning}
use Rattle.vx_types.specs.Seen.{typ}
use Rattle.vx_types.specs.Typ.{Typ}
use Rattle.vx_types.specs.Value as V
use Rattle.vx_scalar_wire.specs.Reading.{ReadsValue}
use Rattle.vx_scalar_wire.proofs.messages.ScalarValueScalarValueExt.from_proto_bytes.Goals as goal

same_read : (s : ExtMeaning) (v : V.Value) (d : Typ) (m n : Value) → m ≡ n → ReadsValue s v d n → ReadsValue s v d m
same_read s v d m n e r = subst (λ (x : Value). ReadsValue s v d x) (sym e) r

pub returns-clause-complete : goal.returns-clause-complete
returns-clause-complete g c = λ v r.
    let same = c.in_ok-message.ensures.complete r.0 r.1 in
    c.from_proto.ensures.complete v c.in_ok-message.ensures.nests (same_read _ v (typ c.args.dtype.now) c.in_ok-message.message r.0 same r.2)
