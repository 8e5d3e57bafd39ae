use Rattle.vx_forms.proofs.LawsOfNumbers.{uint8_lawful, uint32_lawful, uint64_lawful}
use Rattle.vx_forms.proofs.LawsOfTested.{count_lawful}
use Rattle.vx_forms.proofs.LawsOfOctets.{octets_lawful, text_lawful}
use Rattle.vx_forms.proofs.LawsOfPrefixed.{constant_lawful}
use Rattle.vx_forms.proofs.laws.forms_are_lawful.Goals as goal

pub returns : goal.returns
returns c = record {
  uint8 = uint8_lawful;
  uint32 = uint32_lawful;
  uint64 = uint64_lawful;
  count = count_lawful;
  octets = octets_lawful;
  text = text_lawful;
  constant = constant_lawful;
}
