-- The parts of an array's root, as they are written.
use Rattle.std.specs.Prelude.{ℕ, ◌≡◌, List, Option, Some, None, Bool}
use Rattle.vx_trees.specs.Rose.{node, label, below}
use Rattle.vx_array_tree.specs.Sound.{metadata_in}
use Rattle.vx_array_tree.specs.Table.{buffers_of}
use Rattle.vx_array_tree.specs.Tree.{Tree}
use Rattle.vx_wire_tree.specs.Fields.{told}
use Rattle.vx_wire_tree.specs.Limits.{HasMessage}
use Rattle.vx_wire_tree.specs.Session.{SessionMeaning}
use Rattle.vx_wire_tree.specs.Taken.{Step, written, unwritten, unregistered, unserializable, undeclared, unwilling, given_head}
use Rattle.vx_wire_tree.specs.Written.{head_id, writes_two}
use Rattle.vx_encodings.specs.Messages.{message_bytes}
use Rattle.vx_registry.specs.Plugin.{parts_in}
use Rattle.vx_registry.specs.declared.error.RegistryError.{RegistryError}
use Rattle.vx_registry.specs.declared.error.RegistryError.TheVariants.{OutOfMemory, NotRegistered, UndeclaredId, PluginRefused, WireLimit}
use Rattle.vx_registry.specs.declared.serialization.ArraySerialization.{ArraySerialization}
use Rattle.vx_registry.specs.declared.serializing.WrittenRoot.{WrittenRoot}
use Rattle.vx_registry.specs.declared.serializing.WrittenRoot.TheVariants.{Own, Given, Nothing}

-- The identifier of an array's root, where primitives are written under two or not: its encoding's, the second one of
-- primitives, or a foreign node's own.
abbrev pub array_id : Bool → Tree → List ℕ
array_id two t = head_id two (label t)

-- Parts are those of an array's root: its identifier, the bytes of its metadata, its buffers, and the arrays below it.
pub record HasPartsOf (two : Bool) (t : Tree) (s : ArraySerialization) : Type 0 where
  pub id_is : s.serialized_id ≡ array_id two t
  pub metadata_is : s.metadata ≡ message_bytes (told (metadata_in (label t) (below t)))
  pub buffers_are : s.buffers ≡ buffers_of (label t).body
  pub children_are : s.children ≡ below t

-- No parts are given of an array: allocation failed, or its root's metadata does not fit its message.
abbrev pub RefusesPartsOf : RegistryError → Tree → Type 0
RefusesPartsOf OutOfMemory t = Unit {0}
RefusesPartsOf NotRegistered t = ⊥
RefusesPartsOf UndeclaredId t = ⊥
RefusesPartsOf PluginRefused t = ⊥
RefusesPartsOf WireLimit t = HasMessage (label t) (below t) → ⊥

-- ---- by what writes a root

-- A root is serialized as the parts of what is written of it, whose metadata fits its message; or its plugin has no
-- form for it.
abbrev pub IsSerializedAs : SessionMeaning → Step → Option ArraySerialization → Type 0
IsSerializedAs s (written h ts) (Some p) = HasPartsOf (writes_two s) (node h ts) p × HasMessage h ts
IsSerializedAs s (unwritten unserializable) None = Unit {0}
IsSerializedAs s _ _ = ⊥

-- A root is written unchanged, as the parts that its plugin gives, or not at all, as its plugin has no form for it.
abbrev pub IsRootOf : Tree → Step → WrittenRoot → Type 0
IsRootOf t x Own = x ≡ written (label t) (below t)
IsRootOf t x (Given p) = x ≡ written (given_head (label t) (parts_in p)) p.children
IsRootOf t x Nothing = x ≡ unwritten unserializable

-- What is written of a root has metadata that does not fit its message.
abbrev pub HasLargeMetadata : Step → Type 0
HasLargeMetadata (written h ts) = HasMessage h ts → ⊥
HasLargeMetadata (unwritten why) = ⊥

-- Why a root is not serialized: allocation failed; nothing writes it; its plugin names an identifier that it does not
-- declare, or refuses it; or its metadata does not fit its message.
abbrev pub RefusesSerializing : RegistryError → Step → Type 0
RefusesSerializing OutOfMemory x = Unit {0}
RefusesSerializing NotRegistered x = x ≡ unwritten unregistered
RefusesSerializing UndeclaredId x = x ≡ unwritten undeclared
RefusesSerializing PluginRefused x = x ≡ unwritten unwilling
RefusesSerializing WireLimit x = HasLargeMetadata x
