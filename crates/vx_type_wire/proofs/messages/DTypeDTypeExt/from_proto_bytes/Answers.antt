use Rattle.vx_type_wire.specs.TypeMessage.{type_message}
use Rattle.vx_type_wire.proofs.MessageFound.{shallow_by}
use Rattle.vx_type_wire.proofs.messages.DTypeDTypeExt.from_proto_bytes.Goals as goal

pub returns-clause-complete : goal.returns-clause-complete
returns-clause-complete g c = λ t r.
    let same = c.in_ok-message.ensures.complete (type_message t) r.shows.read in
    c.from_proto.ensures.complete t (shallow_by t c.in_ok-message.message r.shows.is_type same c.in_ok-message.ensures.nests)
    (record { shows = record { is_type = r.shows.is_type; is = same }; known = r.known })
