-- The meaning of a plugin that reads a node as its one child, where the session knows its type.
use Rattle.std.specs.Prelude.{◌&&◌, Bool, true, List, [], ◌∷◌, Option, Some, None, nat_eq, if◌then◌else◌}
use Rattle.vx_trees.specs.Rose.{node, end, more}
use Rattle.vx_types.specs.Kind.{extension}
use Rattle.vx_types.specs.Known.{ExtMeaning}
use Rattle.vx_types.specs.Typ.{Typ}
use Rattle.vx_type_wire.specs.Borrowed.{accepts_by}
use Rattle.vx_array_tree.specs.Place.{Place, place}
use Rattle.vx_wire_tree.specs.Plugin.{NodeHead}

-- A type is accepted if it is that of an accepted extension, or of none.
abbrev pub is_accepted : ExtMeaning → Typ → Bool
is_accepted x (node (extension id metadata) (more storage end)) = accepts_by x id metadata storage
is_accepted x _ = true

-- The one child of such a node has the node's own place.
abbrev pub asking_plan : NodeHead → ExtMeaning → Option (List Place)
asking_plan h x = if is_accepted x h.dtype && nat_eq h.nchildren 1 then Some (place h.dtype h.len ∷ []) else None
