-- The status of a blob's refusal.
use Rattle.std.proofs.Common.{◌≡◌, refl, sym, ap, ◌∙◌}
use Rattle.vx_serialized.specs.declared.error.WireError.{WireError}
use Rattle.vx_serialized.specs.declared.refusal.BlobRefusal.{BlobRefusal}
use Rattle.vx_serialized.specs.declared.refusal.BlobRefusal.TheVariants as refusal
use Rattle.vx_serialized.specs.Refusals.{wire_error}
use Rattle.vxcat_store.specs.declared.status.Status.{Status}
use Rattle.vxcat_store.specs.declared.status.Status.TheVariants.{Refused}
use Rattle.vxcat_store.specs.Statuses.{blob_status}

own_status : (r : BlobRefusal) → blob_status (wire_error r) ≡ Refused r
own_status refusal.TooShort = refl
own_status refusal.BadTable = refl
own_status refusal.TableLimit = refl
own_status refusal.BadAlignment = refl
own_status refusal.Compressed = refl
own_status refusal.OutOfBounds = refl
own_status refusal.UnknownIndex = refl
own_status refusal.UnknownEncoding = refl
own_status refusal.BadMetadata = refl
own_status refusal.BadShape = refl
own_status refusal.BadContent = refl
own_status refusal.ForeignControl = refl
own_status refusal.BadStats = refl
own_status refusal.NotPermitted = refl
own_status refusal.WireLimit = refl
own_status refusal.NotRegistered = refl
own_status refusal.NotSerializable = refl
own_status refusal.UndeclaredId = refl
own_status refusal.PluginRefused = refl

-- The status of a refusal that is not allocation failure is the refusal itself.
pub refused_status : (r : BlobRefusal) (error : WireError) → wire_error r ≡ error → Refused r ≡ blob_status error
refused_status r error is = sym (own_status r) ∙ ap blob_status is
