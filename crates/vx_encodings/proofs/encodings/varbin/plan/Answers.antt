use Rattle.std.proofs.Common.{ℕ, List, subst}
use Rattle.vx_proto.specs.Reads.{Reads}
use Rattle.vx_encodings.proofs.VarBinSteps.{varbins_of_floats, varbins_of_others}
use Rattle.vx_encodings.specs.VarBinMessage.{varbin_schema, varbin_value}
use Rattle.vx_encodings.proofs.encodings.varbin.plan.Goals as goal

pub returns-then-not-is_int-clause-err : goal.returns-then-not-is_int-clause-err
returns-then-not-is_int-clause-err c =
    let p = c.in_ok-metadata.metadata.offsets_ptype in
    let shown = subst (λ (bytes : List ℕ). Reads varbin_schema 0 bytes (varbin_value p)) c.as_slice.ensures c.in_ok-metadata.ensures.read in
    λ x. varbins_of_floats x c.args.head.now p c.is_int.result shown c.is_int.ensures c.if-not-is_int.true

pub returns-then-not-is_of_bytes-clause-err : goal.returns-then-not-is_of_bytes-clause-err
returns-then-not-is_of_bytes-clause-err c =
    let p = c.in_ok-metadata.metadata.offsets_ptype in
    let shown = subst (λ (bytes : List ℕ). Reads varbin_schema 0 bytes (varbin_value p)) c.as_slice.ensures c.in_ok-metadata.ensures.read in
    λ x. varbins_of_others x c.args.head.now p c.is_int.result c.is_of_bytes.result shown c.is_int.ensures c.if-not-is_int.false c.is_of_bytes.ensures c.if-not-is_of_bytes.true
