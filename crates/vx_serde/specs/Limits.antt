-- The limits on reading and on writing, by the options.
use Rattle.std.specs.Prelude.{ℕ, Bool, true, false}
use Rattle.vx_flat.specs.declared.limits.Limits.{Limits}
use Rattle.vx_flat.specs.Limits.{limits_to}
use Rattle.vx_serde.specs.declared.options.SerializeOptions.{SerializeOptions}

-- The weight that a message may have that is read or written: deeper tables where the options ask for deep trees.
abbrev pub message_limits : SerializeOptions → Limits
message_limits options = limits_to options.deep

-- The greatest number of levels of nodes of a written tree, deep or not: two fewer than the tables that may nest, since
-- the message and the statistics of the lowest node are tables too.
abbrev pub most_levels_to : Bool → ℕ
most_levels_to false = 62
most_levels_to true = 126

abbrev pub most_levels : SerializeOptions → ℕ
most_levels options = most_levels_to options.deep
