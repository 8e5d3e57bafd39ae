use Rattle.std.proofs.Common.{arith, ◌≡◌, ◌≤◌, Ok, sym, subst, ◌∙◌}
use Rattle.std.proofs.lemmas.Result.{err_from_is_err_and}
use Rattle.vx_proto.specs.declared.error.ProtoError.TheVariants as errors
use Rattle.vx_proto.specs.Value.{value_view}
use Rattle.vx_proto.specs.Reads.{Reads}
use Rattle.vx_proto.specs.Reading.{decoded}
use Rattle.vx_proto.specs.Written.{nested}
use Rattle.vx_trees.proofs.LawsOfBytes.{bytes_from_index}
use Rattle.vx_proto.proofs.LawsOfMessages.{where_ok, ok_unless, caused_unless, fails_caused, fails_only, is_read, reads_given, same_ok, read_uncaused, read_formed, read_nests, refused_deep, read_shallow}
use Rattle.vx_proto.proofs.message.Message.decode.Goals as goal

pub returns-in_err-slots-clause-complete : goal.returns-in_err-slots-clause-complete
returns-in_err-slots-clause-complete g c = λ v r.
    let p = err_from_is_err_and c.from_residual.result c.from_residual.ensures.1 in
    rw (p.1, p.2) (fails_only c.in_err-slots.field-0.0 g.Self.Message.schema g.Self.Message.place c.args.bytes.now v (rw (sym c.lists.ensures, sym c.schema_place.ensures) c.in_err-slots.ensures) r)

pub returns-in_err-slots-clause-cause : goal.returns-in_err-slots-clause-cause
returns-in_err-slots-clause-cause g c =
    let p = err_from_is_err_and c.from_residual.result c.from_residual.ensures.1 in
    rw (p.1, p.2) (fails_caused c.in_err-slots.field-0.0 g.Self.Message.schema g.Self.Message.place c.args.bytes.now (rw (sym c.lists.ensures, sym c.schema_place.ensures) c.in_err-slots.ensures))

pub returns-clause-found : goal.returns-clause-found
returns-clause-found g c =
    let schema = g.Self.Message.schema in
    let place = g.Self.Message.place in
    let slots = value_view c.in_ok-slots.slots.items in
    let given : decoded schema 100 place c.args.bytes.now ≡ Ok slots = rw (sym c.lists.ensures, sym c.schema_place.ensures) c.in_ok-slots.ensures in
    let read : Reads schema place c.args.bytes.now slots = is_read schema place c.args.bytes.now slots given in
    where_ok c.from_value.result _ _ c.from_value.ensures.same (λ m same. subst (Reads schema place c.args.bytes.now) (sym same) read)

pub returns-clause-complete : goal.returns-clause-complete
returns-clause-complete g c = λ v r.
    let schema = g.Self.Message.schema in
    let place = g.Self.Message.place in
    let slots = value_view c.in_ok-slots.slots.items in
    let given : decoded schema 100 place c.args.bytes.now ≡ Ok slots = rw (sym c.lists.ensures, sym c.schema_place.ensures) c.in_ok-slots.ensures in
    let read : Reads schema place c.args.bytes.now slots = is_read schema place c.args.bytes.now slots given in
    ok_unless c.from_value.result errors.OutOfMemory _ _ c.from_value.ensures.same c.from_value.ensures.err
    (λ m same. same ∙ same_ok (decoded schema 100 place c.args.bytes.now) slots v given (reads_given schema place c.args.bytes.now v r))

pub returns-clause-cause : goal.returns-clause-cause
returns-clause-cause g c = caused_unless c.from_value.result errors.OutOfMemory _ c.from_value.ensures.err

pub returns-clause-refused : goal.returns-clause-refused
returns-clause-refused g c = λ e cause.
    let schema = g.Self.Message.schema in
    let place = g.Self.Message.place in
    let slots = value_view c.in_ok-slots.slots.items in
    let given : decoded schema 100 place c.args.bytes.now ≡ Ok slots = rw (sym c.lists.ensures, sym c.schema_place.ensures) c.in_ok-slots.ensures in
    let read : Reads schema place c.args.bytes.now slots = is_read schema place c.args.bytes.now slots given in
    absurd (read_uncaused schema place c.args.bytes.now slots e read cause)

pub from_value-requires : goal.from_value-requires
from_value-requires g c =
    let schema = g.Self.Message.schema in
    let place = g.Self.Message.place in
    let slots = value_view c.in_ok-slots.slots.items in
    let given : decoded schema 100 place c.args.bytes.now ≡ Ok slots = rw (sym c.lists.ensures, sym c.schema_place.ensures) c.in_ok-slots.ensures in
    read_formed schema place c.args.bytes.now slots g.met.Self.Message.lawful (bytes_from_index c.args.bytes.now (λ i. omega (arith, c.type_inv.bytes i))) (is_read schema place c.args.bytes.now slots given)

pub returns-clause-nests : goal.returns-clause-nests
returns-clause-nests g c =
    let schema = g.Self.Message.schema in
    let place = g.Self.Message.place in
    let slots = value_view c.in_ok-slots.slots.items in
    let given : decoded schema 100 place c.args.bytes.now ≡ Ok slots = rw (sym c.lists.ensures, sym c.schema_place.ensures) c.in_ok-slots.ensures in
    let nests : nested slots ≤ 100 = read_nests schema place c.args.bytes.now slots g.met.Self.Message.lawful (bytes_from_index c.args.bytes.now (λ i. omega (arith, c.type_inv.bytes i))) (is_read schema place c.args.bytes.now slots given) in
    where_ok c.from_value.result _ _ c.from_value.ensures.same (λ m same. subst (λ v. nested v ≤ 100) (sym same) nests)

pub returns-in_err-slots-clause-deep : goal.returns-in_err-slots-clause-deep
returns-in_err-slots-clause-deep g c =
    let p = err_from_is_err_and c.from_residual.result c.from_residual.ensures.1 in
    refused_deep g.Self.Message.schema g.Self.Message.place c.args.bytes.now c.from_residual.result
    (rw (p.1, p.2) (fails_caused c.in_err-slots.field-0.0 g.Self.Message.schema g.Self.Message.place c.args.bytes.now (rw (sym c.lists.ensures, sym c.schema_place.ensures) c.in_err-slots.ensures)))

pub returns-clause-shallow : goal.returns-clause-shallow
returns-clause-shallow g c = λ ok n.
    let schema = g.Self.Message.schema in
    let place = g.Self.Message.place in
    let slots = value_view c.in_ok-slots.slots.items in
    let given : decoded schema 100 place c.args.bytes.now ≡ Ok slots = rw (sym c.lists.ensures, sym c.schema_place.ensures) c.in_ok-slots.ensures in
    read_shallow schema place c.args.bytes.now slots (is_read schema place c.args.bytes.now slots given) n
