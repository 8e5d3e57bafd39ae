-- What the bytes of numbers spell, for the proofs of other crates.

-- What is written of a number spells it.
pub use Rattle.vx_proto.proofs.Spelled.{varint_spelled}
-- Signed numbers with the same zigzag number are equal.
pub use Rattle.vx_proto.proofs.Signs.{zigzag_one}
