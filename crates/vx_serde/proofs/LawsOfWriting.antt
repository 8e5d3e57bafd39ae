-- What holds of blobs that are written, for the proofs of other crates.

-- A tree that may be written is carried by its blob, which is a segment, a message and a length in only one way.
pub use Rattle.vx_serde.proofs.Carried.{carried, is_blob, shows-layout}
pub use Rattle.vx_serialized.proofs.LawsOfBlobs.{one_blob}
pub use Rattle.vx_serde.proofs.WholeBlob.{length-blob}
-- The nodes of its message are of its schema where the context has their identifiers and the buffers can be numbered.
pub use Rattle.vx_serde.proofs.MessageRead.{message_value_is_of}
pub use Rattle.vx_serde.proofs.NumberedRead.{placed_from_ids, numbered_fits}
pub use Rattle.vx_serde.proofs.WiredStats.{wire-tabled}
-- What is written of a tree spells the array that its wire tree decodes to.
pub use Rattle.vx_serde.proofs.WrittenAgain.{grown-ids, wire-whole, told_spelled}
pub use Rattle.vx_serde.proofs.GrownPlaced.{grown_by-placed}
