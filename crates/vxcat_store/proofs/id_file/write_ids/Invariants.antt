use Rattle.std.proofs.Common.{◌≡◌, ◌++◌, drop}
use Rattle.vxcat_store.specs.IdFile.{id_text}
use Rattle.vxcat_store.proofs.id_file.write_ids.Given as goal

abbrev pub invariant-loop-id : goal.invariant-loop-id
invariant-loop-id l = l.bytes.items ++ id_text (drop l.id-index l.id-items) ≡ id_text l.ids
