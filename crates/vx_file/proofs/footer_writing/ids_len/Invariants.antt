-- The bytes so far, and those of the identifiers that are left, are all.
use Rattle.std.proofs.Common.{◌≡◌, ◌+◌, ◌-◌, ◌^◌, ◌≤◌, min, length, drop}
use Rattle.std.specs.List.{flat_map}
use Rattle.vx_forms.specs.Octets.{octets_written}
use Rattle.vx_file.proofs.footer_writing.ids_len.Given as goal

abbrev pub invariant-loop-id : goal.invariant-loop-id
invariant-loop-id l = record {
  total : min (l.len + length (flat_map octets_written (drop l.id-index l.ids))) (2 ^ 64 - 1) ≡ min (length (flat_map octets_written l.ids)) (2 ^ 64 - 1);
  small : l.len ≤ 2 ^ 64 - 1;
}
