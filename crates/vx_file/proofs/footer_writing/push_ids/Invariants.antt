-- The bytes so far, before those of the identifiers that are left, are all; and all are texts where those that are left are.
use Rattle.std.proofs.Common.{◌≡◌, ◌++◌, drop, IsTrue}
use Rattle.std.specs.List.{flat_map, AllByRecursion}
use Rattle.std.specs.Str.{is_utf8}
use Rattle.vx_forms.specs.Octets.{octets_written}
use Rattle.vx_file.specs.Footer.{ids_form}
use Rattle.vx_file.proofs.footer_writing.push_ids.Given as goal

abbrev pub invariant-loop-id : goal.invariant-loop-id
invariant-loop-id l = record {
  written : l.out.items ++ flat_map octets_written (drop l.id-index l.ids) ≡ l.fn.out.items ++ ids_form.write l.ids;
  texts : AllByRecursion (λ id. IsTrue (is_utf8 id)) (drop l.id-index l.ids) → AllByRecursion (λ id. IsTrue (is_utf8 id)) l.ids;
}
