-- What the worked message weighs.
use Rattle.std.proofs.Common.{◌≡◌, refl, lit≤, subst, sym}
use Rattle.vx_flat.specs.Limits.{KeepsLimits, limits}
use Rattle.vx_flat.specs.Places.{u16_at, u32_at, u64_at, behind, field_table, place_of, table_at, is_vector, is_text}
use Rattle.vx_flat.specs.Schema.{struct_size}
use Rattle.vx_flat.specs.Weight.{weight, weight_within, table_weight}
use Rattle.vx_flat_tests.specs.Worked.{type_message}
use Rattle.vx_type_wire.specs.Schema.{type_schema}

weight-type_message : weight type_schema type_message ≡ record { nested = 2; tables = 2; bytes = 128 }
unfolding table_weight weight_within u16_at u32_at u64_at behind field_table place_of table_at is_vector is_text struct_size
weight-type_message = refl

pub type_message-within_limits : KeepsLimits limits (weight type_schema type_message)
type_message-within_limits = subst (λ w. KeepsLimits limits w) (sym weight-type_message) (lit≤ tt, lit≤ tt, lit≤ tt)
