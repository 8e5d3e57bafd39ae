-- The laws of the format follow from those of its parts.
use Rattle.std.specs.Prelude.{codes}
use Rattle.vx_forms.specs.Form.{IsLawful, IsCanonical}
use Rattle.vx_forms.specs.Numbers.{uint64}
use Rattle.vx_forms.proofs.LawsOfLists.{list_lawful, list_canonical}
use Rattle.vx_forms.proofs.LawsOfNumbers.{uint64_lawful, uint64_canonical}
use Rattle.vx_forms.proofs.LawsOfPrefixed.{prefixed_lawful, prefixed_canonical}
use Rattle.vx_forms_tests.specs.Sizes.{numbers, sizes}

pub sizes_lawful : IsLawful sizes
sizes_lawful = prefixed_lawful (codes "SIZE") numbers (list_lawful uint64 0 1000 uint64_lawful)

pub sizes_canonical : IsCanonical sizes
sizes_canonical = prefixed_canonical (codes "SIZE") numbers (list_canonical uint64 0 1000 uint64_canonical)
