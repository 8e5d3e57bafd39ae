-- Refusals of a blob without allocation failure.
use Rattle.vx_serialized.specs.declared.error.WireError.{WireError}
use Rattle.vx_serialized.specs.declared.error.WireError.TheVariants as wire
use Rattle.vx_serialized.specs.declared.refusal.BlobRefusal.{BlobRefusal}
use Rattle.vx_serialized.specs.declared.refusal.BlobRefusal.TheVariants as refusal

-- The refusal of reading or writing that a blob's refusal is.
abbrev pub wire_error : BlobRefusal → WireError
wire_error refusal.TooShort = wire.TooShort
wire_error refusal.BadTable = wire.BadTable
wire_error refusal.TableLimit = wire.TableLimit
wire_error refusal.BadAlignment = wire.BadAlignment
wire_error refusal.Compressed = wire.Compressed
wire_error refusal.OutOfBounds = wire.OutOfBounds
wire_error refusal.UnknownIndex = wire.UnknownIndex
wire_error refusal.UnknownEncoding = wire.UnknownEncoding
wire_error refusal.BadMetadata = wire.BadMetadata
wire_error refusal.BadShape = wire.BadShape
wire_error refusal.BadContent = wire.BadContent
wire_error refusal.ForeignControl = wire.ForeignControl
wire_error refusal.BadStats = wire.BadStats
wire_error refusal.NotPermitted = wire.NotPermitted
wire_error refusal.WireLimit = wire.WireLimit
wire_error refusal.NotRegistered = wire.NotRegistered
wire_error refusal.NotSerializable = wire.NotSerializable
wire_error refusal.UndeclaredId = wire.UndeclaredId
wire_error refusal.PluginRefused = wire.PluginRefused
