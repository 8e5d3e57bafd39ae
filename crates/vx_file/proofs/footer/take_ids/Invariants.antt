-- The identifiers so far, before those that are still to be read, are the whole list.
use Rattle.std.proofs.Common.{◌≡◌, ◌-◌}
use Rattle.vx_forms.specs.Lists.{read_more}
use Rattle.vx_forms.specs.Octets.{text}
use Rattle.vx_file.specs.Footer.{most, ids_form}
use Rattle.vx_file.proofs.footer.take_ids.Given as goal

abbrev pub invariant-loop : goal.invariant-loop
invariant-loop l = ids_form.read l.fn.bytes ≡ read_more (text 0 most) l.ids (l.count - l.counter) l.rest
