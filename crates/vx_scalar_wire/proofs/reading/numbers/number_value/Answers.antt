use Rattle.std.specs.Int.{w64, cast_signed, cast_unsigned}
use Rattle.std.proofs.Common.{rules, ◌≡◌, ◌∙◌, ℕ, refl, subst, ap, arith}
use Rattle.std.proofs.lemmas.Int.{to_z-of_z}
use Rattle.vx_proto.specs.Signed.{zigzag}
use Rattle.vx_proto.specs.Form.{HasForm}
use Rattle.vx_proto.specs.Value.{number}
use Rattle.vx_types.specs.Seen.{typ}
use Rattle.vx_types.specs.Value as V
use Rattle.vx_scalars.specs.Seen.{value_of}
use Rattle.vx_scalar_wire.specs.Answers.{lone_member}
use Rattle.vx_scalar_wire.specs.Reading.{ReadsValue}
use Rattle.vx_scalar_wire.specs.ScalarMessage.{scalar_lists}
use Rattle.vx_scalar_wire.proofs.Held.{flag_below, number_name, null_held, held_under}
use Rattle.vx_scalar_wire.proofs.reading.numbers.number_value.Goals as goal

pub returns-in-1 : goal.returns-in-1
returns-in-1 c = record { read = λ s most. (refl, null_held c.args.number c.args.value c.in-1.is c.requires) }

pub returns-in_ok-flag_value-in-2 : goal.returns-in_ok-flag_value-in-2
returns-in_ok-flag_value-in-2 c = record {
  read = λ s most. held_under s (value_of c.in_ok-flag_value-in-2.field-0) (typ c.args.dtype.now) c.args.number 2 (number c.args.value) c.in-2.is (c.in_ok-flag_value-in-2.ensures s most);
}

pub returns-in_ok-signed-in-3 : goal.returns-in_ok-signed-in-3
returns-in_ok-signed-in-3 c = record {
  read = λ s most.
      let same : cast_signed w64 (cast_unsigned w64 c.unzigzag.result) ≡ c.unzigzag.result = to_z-of_z w64 c.unzigzag.result (search rules) in
      held_under s (V.lone (V.number c.in_ok-signed-in-3.field-0)) (typ c.args.dtype.now) c.args.number 3 (number c.args.value) c.in-3.is
      (subst (λ (n : ℕ). ReadsValue s (V.lone (V.number c.in_ok-signed-in-3.field-0)) (typ c.args.dtype.now) (lone_member 3 (number n))) (ap zigzag same ∙ c.unzigzag.ensures)
      (c.in_ok-signed-in-3.ensures s most));
}

pub returns-in_ok-unsigned-in-4 : goal.returns-in_ok-unsigned-in-4
returns-in_ok-unsigned-in-4 c = record {
  read = λ s most. held_under s (V.lone (V.number c.in_ok-unsigned-in-4.field-0)) (typ c.args.dtype.now) c.args.number 4 (number c.args.value) c.in-4.is (c.in_ok-unsigned-in-4.ensures s most);
}

pub returns-in_ok-single-in-5 : goal.returns-in_ok-single-in-5
returns-in_ok-single-in-5 c = record {
  read = λ s most. held_under s (V.lone (V.number c.in_ok-single-in-5.field-0)) (typ c.args.dtype.now) c.args.number 5 (number c.args.value) c.in-5.is (c.in_ok-single-in-5.ensures s most);
}

pub returns-in_ok-double-in-6 : goal.returns-in_ok-double-in-6
returns-in_ok-double-in-6 c = record {
  read = λ s most. held_under s (V.lone (V.number c.in_ok-double-in-6.field-0)) (typ c.args.dtype.now) c.args.number 6 (number c.args.value) c.in-6.is (c.in_ok-double-in-6.ensures s most);
}

pub returns-in_ok-half-in-10 : goal.returns-in_ok-half-in-10
returns-in_ok-half-in-10 c = record {
  read = λ s most. held_under s (V.lone (V.number c.in_ok-half-in-10.field-0)) (typ c.args.dtype.now) c.args.number 10 (number c.args.value) c.in-10.is (c.in_ok-half-in-10.ensures s most);
}

pub flag_value-requires : goal.flag_value-requires
flag_value-requires c = flag_below c.args.value (subst (λ (k : ℕ). HasForm scalar_lists 15 (lone_member k (number c.args.value))) c.in-2.is c.requires)

pub returns-in_default : goal.returns-in_default
returns-in_default c = record {
  read = λ s most.
      absurd (number_name c.args.number c.args.value c.requires (λ e. absurd (omega (arith, e))) (λ e. absurd (omega (arith, e))) (λ e. absurd (omega (arith, e))) (λ e. absurd (omega (arith, e)))
      (λ e. absurd (omega (arith, e))) (λ e. absurd (omega (arith, e))) (λ e. absurd (omega (arith, e))));
}
