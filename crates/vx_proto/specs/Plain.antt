-- What contracts see of a message that is held as its plain value.
use Rattle.std.specs.Prelude.{ℕ, Option, Some, None}
use Rattle.std.specs.Global.{Vec}
use Rattle.vx_proto.specs.declared.element.Element.{Element}
use Rattle.vx_proto.specs.Value.{Value, value_view}

-- The value that is held, or the default.
abbrev pub plain_value : Value → Option (Vec (Vec (ℕ × Element))) → Value
plain_value default None = default
plain_value default (Some slots) = value_view slots.items
