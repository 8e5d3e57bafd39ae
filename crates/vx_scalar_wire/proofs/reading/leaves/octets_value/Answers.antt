use Rattle.std.specs.Prelude.{IfOk}
use Rattle.std.proofs.Common.{◌≡◌, subst, sym, arith}
use Rattle.vx_proto.specs.Value.{octets}
use Rattle.vx_types.specs.Fits.{IsBinary, IsUtf8}
use Rattle.vx_types.specs.Seen.{typ}
use Rattle.vx_types.specs.declared.dtype.DType.{DType}
use Rattle.vx_scalars.specs.Seen.{value_of}
use Rattle.vx_scalar_wire.proofs.Held.{octets_name}
use Rattle.vx_scalar_wire.proofs.Leaves.{binary_read, mismatch, no_octets, no_string, text_read, text_refused}
use Rattle.vx_scalar_wire.proofs.reading.leaves.octets_value.Goals as goal

pub returns-in-Ok : goal.returns-in-Ok
returns-in-Ok c = record {
  read = λ s most.
      text_read s (typ c.args.dtype.now) (typ c.bare_dtype.result.now) c.args.number c.args.bytes.now (value_of c.in-Ok.text) c.bare_dtype.ensures
      (subst (λ (d : DType). IsUtf8 (typ d)) (sym c.in-Utf8.is) tt) c.in-Ok.ensures.is_text (octets_name c.args.number c.args.bytes.now c.requires) c.in-Ok.ensures.same;
}

pub returns-in-Err : goal.returns-in-Err
returns-in-Err c = record {
  read = λ s most.
      text_refused c.in-Err.error s most (typ c.args.dtype.now) (typ c.bare_dtype.result.now) c.args.number c.args.bytes.now c.bare_dtype.ensures
      (subst (λ (d : DType). IsUtf8 (typ d)) (sym c.in-Utf8.is) tt) (octets_name c.args.number c.args.bytes.now c.requires) c.in-Err.ensures.cause;
}

pub returns-in_ok-copy-in-Binary : goal.returns-in_ok-copy-in-Binary
returns-in_ok-copy-in-Binary c = record {
  read = λ s most.
      binary_read s (typ c.args.dtype.now) (typ c.bare_dtype.result.now) c.args.number c.args.bytes.now c.in_ok-copy-in-Binary.copy c.bare_dtype.ensures
      (subst (λ (d : DType). IsBinary (typ d)) (sym c.in-Binary.is) tt) (octets_name c.args.number c.args.bytes.now c.requires) (subst (λ r. IfOk r (λ b. b ≡ c.args.bytes.now)) c.in_ok-copy-in-Binary.ensures.same c.copy_from.ensures.ok);
}

pub returns-in_default : goal.returns-in_default
returns-in_default c = record {
  read = λ s most.
      mismatch s most (typ c.args.dtype.now) (typ c.bare_dtype.result.now) c.args.number (octets c.args.bytes.now) c.bare_dtype.ensures
      (no_octets c.args.number c.bare_dtype.result.now (octets_name c.args.number c.args.bytes.now c.requires) c.in_default.not-Utf8 c.in_default.not-Binary c.in_default.not-Decimal);
}

pub returns-in_default-number : goal.returns-in_default-number
returns-in_default-number c = record {
  read = λ s most.
      mismatch s most (typ c.args.dtype.now) (typ c.bare_dtype.result.now) c.args.number (octets c.args.bytes.now) c.bare_dtype.ensures
      (no_string c.args.number c.bare_dtype.result.now c.in-Decimal.field-0 c.in-Decimal.field-1 c.in-Decimal.is (octets_name c.args.number c.args.bytes.now c.requires) (λ e. absurd (omega (arith, e))));
}
