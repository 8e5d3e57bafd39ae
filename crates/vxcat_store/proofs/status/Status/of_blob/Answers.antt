use Rattle.std.proofs.Common.{sym, ap}
use Rattle.vxcat_store.specs.Statuses.{blob_status}
use Rattle.vxcat_store.proofs.BlobStatuses.{refused_status}
use Rattle.vxcat_store.proofs.status.Status.of_blob.Goals as goal

pub returns-in-None : goal.returns-in-None
returns-in-None c = sym (ap blob_status c.in-None.ensures.none)

pub returns-in-Some : goal.returns-in-Some
returns-in-Some c = refused_status c.in-Some.refusal c.args.error c.in-Some.ensures.some
