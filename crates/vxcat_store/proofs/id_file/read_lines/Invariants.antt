use Rattle.std.proofs.Common.{◌≡◌, ◌≤◌, ◌++◌, length}
use Rattle.std.specs.List.{AllByRecursion}
use denote.Shadow.{shadow}
use denote.Text.{Utf8}
use Rattle.vxcat_store.specs.IdFile.{id_text, IsIdLine}
use Rattle.vxcat_store.proofs.id_file.read_lines.Given as goal

abbrev pub invariant-loop-line : goal.invariant-loop-line
invariant-loop-line l = record {
  lines : AllByRecursion IsIdLine l.ids;
  text : l.text ≡ id_text l.ids ++ l.rest;
  few : length l.ids ≤ 65536;
  utf8 : shadow (Utf8 l.rest);
}

abbrev pub decreases-loop-line : goal.decreases-loop-line
decreases-loop-line l = length l.rest
