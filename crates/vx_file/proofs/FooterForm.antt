-- The footer of a column file is a lawful form.
use Rattle.std.proofs.Common.{refl}
use Rattle.vx_forms.specs.Form.{IsLawful}
use Rattle.vx_forms.specs.Numbers.{uint64}
use Rattle.vx_forms.specs.Octets.{octets, text}
use Rattle.vx_forms.specs.Pairs.{pair}
use Rattle.vx_forms.proofs.LawsOfLists.{list_lawful}
use Rattle.vx_forms.proofs.LawsOfMapped.{mapped_lawful}
use Rattle.vx_forms.proofs.LawsOfNumbers.{uint64_lawful}
use Rattle.vx_forms.proofs.LawsOfOctets.{octets_lawful, text_lawful}
use Rattle.vx_forms.proofs.LawsOfPairs.{pair_lawful}
use Rattle.vx_file.specs.Footer.{most, range_of_pair, pair_of_range, range_form, ranges_form, ids_form, footer_of_parts, parts_of_footer, footer_form}

-- A range is.
pub range_lawful : IsLawful range_form
range_lawful =
    mapped_lawful range_of_pair pair_of_range (record { back_view = λ p. refl; view_back = λ r. refl })
    (pair uint64 uint64) (pair_lawful uint64 uint64 uint64_lawful uint64_lawful)

-- And a whole footer.
pub footer_lawful : IsLawful footer_form
footer_lawful =
    let names = pair_lawful ids_form (octets 0 most) (list_lawful (text 0 most) 0 most (text_lawful 0 most)) (octets_lawful 0 most) in
    let parts = pair_lawful ranges_form (pair ids_form (octets 0 most)) (list_lawful range_form 0 most range_lawful) names in
    mapped_lawful footer_of_parts parts_of_footer (record { back_view = λ p. refl; view_back = λ f. refl })
    (pair uint64 (pair ranges_form (pair ids_form (octets 0 most))))
    (pair_lawful uint64 (pair ranges_form (pair ids_form (octets 0 most))) uint64_lawful parts)
