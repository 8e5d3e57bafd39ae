-- The limits of what a message may weigh.
use Rattle.std.specs.Prelude.{ℕ, Bool, true, false, ◌≤◌, ◌^◌}
pub use Rattle.vx_flat.specs.declared.limits.Limits.{Limits}
use Rattle.vx_flat.specs.Weight.{Weight}

-- How deep tables may nest, the root counted: 64, and 128 with deep trees.
abbrev pub most_nested : Bool → ℕ
most_nested false = 64
most_nested true = 128

-- The limits of this project: this depth of tables, 1,000,000 tables and 2^31 bytes, each counted
-- once for each path from the root to it.
abbrev pub limits_to : Bool → Limits
limits_to deep = record { nested = most_nested deep; tables = 1000000; bytes = 2 ^ 31 }

-- The limits without deep trees.
abbrev pub limits : Limits
limits = limits_to false

-- A weight is within limits: none of its three numbers is above its limit.
abbrev pub KeepsLimits : Limits → Weight → Type 0
KeepsLimits l w = (w.nested ≤ l.nested) × (w.tables ≤ l.tables) × (w.bytes ≤ l.bytes)
