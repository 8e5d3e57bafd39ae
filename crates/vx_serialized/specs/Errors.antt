-- The numbers of refusals, the registry's refusals as those of a blob, and which are of reading alone.
use Rattle.std.specs.Prelude.{ℕ}
use Rattle.vx_registry.specs.declared.error.RegistryError.{RegistryError}
use Rattle.vx_registry.specs.declared.error.RegistryError.TheVariants as registry
use Rattle.vx_serialized.specs.declared.error.WireError.{WireError}
use Rattle.vx_serialized.specs.declared.error.WireError.TheVariants.{OutOfMemory, TooShort, BadTable, TableLimit, BadAlignment, Compressed, OutOfBounds, UnknownIndex, UnknownEncoding, BadMetadata, BadShape, BadContent, ForeignControl, BadStats, NotPermitted, WireLimit, NotRegistered, NotSerializable, UndeclaredId, PluginRefused}

-- Allocation failure is 1. The blob's own faults are 10 to 15, a node's 16 to 22, those of writing 23 to 27, and 28 is
-- a plugin's, on reading and on writing.
abbrev pub error_number : WireError → ℕ
error_number OutOfMemory = 1
error_number TooShort = 10
error_number BadTable = 11
error_number TableLimit = 12
error_number BadAlignment = 13
error_number Compressed = 14
error_number OutOfBounds = 15
error_number UnknownIndex = 16
error_number UnknownEncoding = 17
error_number BadMetadata = 18
error_number BadShape = 19
error_number BadContent = 20
error_number ForeignControl = 21
error_number BadStats = 22
error_number NotPermitted = 23
error_number WireLimit = 24
error_number NotRegistered = 25
error_number NotSerializable = 26
error_number UndeclaredId = 27
error_number PluginRefused = 28

-- Why the registry does not write a root, as a refusal of its array.
abbrev pub registry_refusal : RegistryError → WireError
registry_refusal registry.OutOfMemory = OutOfMemory
registry_refusal registry.NotRegistered = NotRegistered
registry_refusal registry.UndeclaredId = UndeclaredId
registry_refusal registry.PluginRefused = PluginRefused
registry_refusal registry.WireLimit = WireLimit

-- Refusals of what is read alone: of a blob, or of its nodes.
abbrev pub IsOfReading : WireError → Type 0
IsOfReading TooShort = Unit {0}
IsOfReading BadTable = Unit {0}
IsOfReading TableLimit = Unit {0}
IsOfReading BadAlignment = Unit {0}
IsOfReading Compressed = Unit {0}
IsOfReading OutOfBounds = Unit {0}
IsOfReading UnknownIndex = Unit {0}
IsOfReading UnknownEncoding = Unit {0}
IsOfReading BadMetadata = Unit {0}
IsOfReading BadShape = Unit {0}
IsOfReading BadContent = Unit {0}
IsOfReading ForeignControl = Unit {0}
IsOfReading BadStats = Unit {0}
IsOfReading _ = ⊥
