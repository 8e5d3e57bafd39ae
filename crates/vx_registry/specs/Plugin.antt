-- The arguments and results of a caller's plugin, as the plain values of its meaning.
use Rattle.std.specs.Prelude.{◌≡◌, Option, Some, None, Result, Ok, Err}
use Rattle.vx_types.specs.Seen.{typ}
use Rattle.vx_wire_tree.specs.Plugin.{NodeHead, Parts, parts_head, Answer, none, refused, given}
use Rattle.vx_plans.specs.declared.head.ArrayHead.{ArrayHead}
use Rattle.vx_registry.specs.declared.plugin.PluginError.{PluginError}
use Rattle.vx_registry.specs.declared.plugin.PluginError.TheVariants.{OutOfMemory, Refused}
use Rattle.vx_registry.specs.declared.serialization.ArraySerialization.{ArraySerialization}
use Rattle.vx_registry.specs.declared.serialization.ArrayDeserialization.{ArrayDeserialization}

-- What is known of a node before its children are read.
abbrev pub head_in : ArrayHead → NodeHead
head_in h = record { id = h.serialized_id; dtype = typ h.dtype; len = h.len; metadata = h.metadata; nbuffers = h.nbuffers; nchildren = h.nchildren }

-- The parts of a node that is read.
abbrev pub read_parts : ArrayDeserialization → Parts
read_parts p = record { id = p.serialized_id; metadata = p.metadata; buffers = p.buffers; children = p.children }

-- The head of a node whose parts are there.
abbrev pub read_head : ArrayDeserialization → NodeHead
read_head p = parts_head (read_parts p) (typ p.dtype) p.len

-- The parts as which an array is written.
abbrev pub parts_in : ArraySerialization → Parts
parts_in s = record { id = s.serialized_id; metadata = s.metadata; buffers = s.buffers; children = s.children }

-- A result is what is meant, or allocation failed; it is a refusal exactly where nothing is meant.
abbrev pub IsAnswer : {A : Type 0} → Option A → Result A PluginError → Type 0
IsAnswer meant (Ok a) = meant ≡ Some a
IsAnswer meant (Err OutOfMemory) = Unit {0}
IsAnswer meant (Err Refused) = meant ≡ None

-- The same for what is made of an array: its parts, or none, or a refusal.
abbrev pub IsWrittenAs : Answer → Result (Option ArraySerialization) PluginError → Type 0
IsWrittenAs meant (Ok None) = meant ≡ none
IsWrittenAs meant (Ok (Some s)) = meant ≡ given (parts_in s)
IsWrittenAs meant (Err OutOfMemory) = Unit {0}
IsWrittenAs meant (Err Refused) = meant ≡ refused
