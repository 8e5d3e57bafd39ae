-- The statuses of steps that are refused.
use Rattle.vxcat_store.specs.StoreState.{HasRisen, StoreState}
use Rattle.vx_serialized.specs.declared.error.WireError.{WireError}
use Rattle.vx_serialized.specs.declared.error.WireError.TheVariants as wire
use Rattle.vx_fn_wire.specs.declared.error.FnWireError.{FnWireError}
use Rattle.vx_fn_wire.specs.declared.error.FnWireError.TheVariants as fn_error
use Rattle.vx_type_wire.specs.declared.error.TypeWireError.{TypeWireError}
use Rattle.vx_type_wire.specs.declared.error.TypeWireError.TheVariants as type_error
use Rattle.vxcat_store.specs.declared.store.StoreError.{StoreError}
use Rattle.vxcat_store.specs.declared.store.StoreError.TheVariants as store_error
use Rattle.vxcat_store.specs.declared.print.PrintError.{PrintError}
use Rattle.vxcat_store.specs.declared.print.PrintError.TheVariants as print_error
use Rattle.vxcat_store.specs.declared.id_file.IdFileError.{IdFileError}
use Rattle.vxcat_store.specs.declared.id_file.IdFileError.TheVariants as id_error
use Rattle.vx_serialized.specs.declared.refusal.BlobRefusal.TheVariants as refusal
use Rattle.vxcat_store.specs.declared.status.Status.{Status}
use Rattle.vxcat_store.specs.declared.status.Status.TheVariants.{OutOfMemory, LoadFault, SaveFault, WriteFault, BadType, BadIds, BadExpression, Refused}

-- Allocation failure is one status, at any step; a load that failed is a fault of loading.
abbrev pub load_status : StoreError → Status
load_status store_error.OutOfMemory = OutOfMemory
load_status store_error.Failed = LoadFault

-- A save that failed is a fault of saving.
abbrev pub save_status : StoreError → Status
save_status store_error.OutOfMemory = OutOfMemory
save_status store_error.Failed = SaveFault

-- A listing that could not be wholly printed is a fault of writing.
abbrev pub print_status : PrintError → Status
print_status print_error.OutOfMemory = OutOfMemory
print_status print_error.Failed = WriteFault

-- Each refusal of a type file, apart from allocation failure, is one of a bad type.
abbrev pub type_status : TypeWireError → Status
type_status type_error.OutOfMemory = OutOfMemory
type_status type_error.BadTable = BadType
type_status type_error.TableLimit = BadType
type_status type_error.BadMessage = BadType
type_status type_error.TooDeep = BadType
type_status type_error.BadType = BadType
type_status type_error.UnknownExtension = BadType
type_status type_error.ExtensionRefused = BadType
type_status type_error.WireLimit = BadType

-- An id file that is no text of identifiers is a bad one.
abbrev pub id_status : IdFileError → Status
id_status id_error.OutOfMemory = OutOfMemory
id_status id_error.BadText = BadIds

-- Each refusal of an expression file, apart from allocation failure, is one of a bad expression.
abbrev pub expr_status : FnWireError → Status
expr_status fn_error.OutOfMemory = OutOfMemory
expr_status fn_error.BadMessage = BadExpression
expr_status fn_error.TooDeep = BadExpression
expr_status fn_error.RootWithChildren = BadExpression
expr_status fn_error.UnknownId = BadExpression
expr_status fn_error.ArityMismatch = BadExpression
expr_status fn_error.IdMismatch = BadExpression
expr_status fn_error.NotSerializable = BadExpression
expr_status fn_error.PluginRefused = BadExpression

-- A blob's refusal, apart from allocation failure, is the status itself.
abbrev pub blob_status : WireError → Status
blob_status wire.OutOfMemory = OutOfMemory
blob_status wire.TooShort = Refused refusal.TooShort
blob_status wire.BadTable = Refused refusal.BadTable
blob_status wire.TableLimit = Refused refusal.TableLimit
blob_status wire.BadAlignment = Refused refusal.BadAlignment
blob_status wire.Compressed = Refused refusal.Compressed
blob_status wire.OutOfBounds = Refused refusal.OutOfBounds
blob_status wire.UnknownIndex = Refused refusal.UnknownIndex
blob_status wire.UnknownEncoding = Refused refusal.UnknownEncoding
blob_status wire.BadMetadata = Refused refusal.BadMetadata
blob_status wire.BadShape = Refused refusal.BadShape
blob_status wire.BadContent = Refused refusal.BadContent
blob_status wire.ForeignControl = Refused refusal.ForeignControl
blob_status wire.BadStats = Refused refusal.BadStats
blob_status wire.NotPermitted = Refused refusal.NotPermitted
blob_status wire.WireLimit = Refused refusal.WireLimit
blob_status wire.NotRegistered = Refused refusal.NotRegistered
blob_status wire.NotSerializable = Refused refusal.NotSerializable
blob_status wire.UndeclaredId = Refused refusal.UndeclaredId
blob_status wire.PluginRefused = Refused refusal.PluginRefused

-- A load fails where the count of load faults rose, or where allocation failed.
abbrev pub RefusesLoad : Status → StoreState → StoreState → Type 0
RefusesLoad LoadFault before after = HasRisen before.load_faults after.load_faults
RefusesLoad OutOfMemory before after = Unit {0}
RefusesLoad status before after = ⊥

-- A save fails where the count of save faults rose, or where allocation failed.
abbrev pub RefusesSave : Status → StoreState → StoreState → Type 0
RefusesSave SaveFault before after = HasRisen before.save_faults after.save_faults
RefusesSave OutOfMemory before after = Unit {0}
RefusesSave status before after = ⊥
