-- What is written keeps the limits on reading.
use Rattle.std.proofs.Common.{ℕ, List, ◌++◌, replicate, subst}
use Rattle.vx_flat.specs.Weight.{weight}
use Rattle.vx_flat.specs.Limits.{KeepsLimits}
use Rattle.vx_wire_tree.specs.Wire.{Wire, buffers_in}
use Rattle.vx_serialized.specs.ArraySchema.{array_schema}
use Rattle.vx_serialized.proofs.LawsOfBlobs.{one_blob}
use Rattle.vx_serde.specs.declared.options.SerializeOptions.{SerializeOptions}
use Rattle.vx_serde.specs.Limits.{message_limits}
use Rattle.vx_serde.specs.Placing.{data_from}
use Rattle.vx_serde.specs.Spells.{KeepsReaderLimits}
use Rattle.vx_serde.specs.Written.{message_bytes, message_pad, blob_bytes, IsWritable}
use Rattle.vx_serde.proofs.Carried.{is_blob}

-- A blob that was written keeps the limits on reading.
pub written_readable : (ids : List (List ℕ)) (o : SerializeOptions) (w : Wire) → IsWritable ids o w → KeepsReaderLimits o (blob_bytes ids o w)
written_readable ids o w fit =
    let bytes = data_from o o.offset (buffers_in w) in
    let zeros : List ℕ = replicate (message_pad o w) 0 in
    let own = is_blob bytes zeros (message_bytes ids o w) fit.short in
    record {
      within_limits = λ segment message is.
          let P : List ℕ → Type 0 = λ m. KeepsLimits (message_limits o) (weight array_schema m) in
          subst P (one_blob (blob_bytes ids o w) (bytes ++ zeros) segment (message_bytes ids o w) message own is).1 fit.within_limits;
    }
