use Rattle.vx_forms.proofs.LawsOfNumbers.{uint8_canonical, uint32_canonical, uint64_canonical}
use Rattle.vx_forms.proofs.LawsOfTested.{count_canonical}
use Rattle.vx_forms.proofs.LawsOfOctets.{octets_canonical, text_canonical}
use Rattle.vx_forms.proofs.LawsOfPrefixed.{constant_canonical}
use Rattle.vx_forms.proofs.laws.forms_are_canonical.Goals as goal

pub returns : goal.returns
returns c = record {
  uint8 = uint8_canonical;
  uint32 = uint32_canonical;
  uint64 = uint64_canonical;
  count = count_canonical;
  octets = octets_canonical;
  text = text_canonical;
  constant = constant_canonical;
}
