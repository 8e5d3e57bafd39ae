use Rattle.std.proofs.Common.{arith}
use Rattle.vx_trees.proofs.LawsOfBytes.{bytes_from_index}
use Rattle.vx_scalar_wire.proofs.writing.octets_slot.Goals as goal

pub returns-in_err-element-clause-bytes : goal.returns-in_err-element-clause-bytes
returns-in_err-element-clause-bytes c = bytes_from_index c.args.bytes.now (λ i. omega (arith, c.type_inv.bytes i))

pub returns-clause-bytes : goal.returns-clause-bytes
returns-clause-bytes c = bytes_from_index c.args.bytes.now (λ i. omega (arith, c.type_inv.bytes i))
