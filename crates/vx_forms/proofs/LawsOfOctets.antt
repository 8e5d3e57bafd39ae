-- Bytes after their length are a lawful form, and canonical; so are texts.
use Rattle.std.proofs.Common.{ℕ, List, ◌++◌, length, refl, sym, ap, ◌∙◌, subst}
use Rattle.std.specs.Str.{is_utf8}
use Rattle.vx_trees.specs.Bytes.{AreBytes}
use Rattle.vx_forms.specs.Form.{IsLawful, IsCanonical}
use Rattle.vx_forms.specs.Numbers.{count, front_bytes}
use Rattle.vx_forms.specs.Octets.{ShowsOctets, octets, text}
use Rattle.vx_forms.proofs.Readers.{restated, followed, ShowsAfter}
use Rattle.vx_forms.proofs.LawsOfForms.{reader_of, lawful_of}
use Rattle.vx_forms.proofs.LawsOfBytes.{bytes_before}
use Rattle.vx_forms.proofs.LawsOfNumbers.{front_reader, ShowsFront}
use Rattle.vx_forms.proofs.LawsOfTested.{count_lawful, count_canonical, tested_lawful, tested_canonical}

module _ (low high : ℕ) where
  as_after : (xs bytes : List ℕ) → ShowsOctets low high xs bytes → ShowsAfter (count low high).Shows ShowsFront xs bytes
  as_after xs bytes s =
      record {
        value = length xs;
        first = s.word;
        second = xs;
        parts = s.parts;
        in_first = s.counted;
        in_second = record { is = refl; len = refl };
      }

  as_octets : (xs bytes : List ℕ) → ShowsAfter (count low high).Shows ShowsFront xs bytes
      → ShowsOctets low high xs bytes
  as_octets xs bytes s = record {
    word = s.first;
    parts = s.parts ∙ ap (λ (z : List ℕ). s.first ++ z) s.in_second.is;
    counted = subst (λ z. (count low high).Shows z s.first) (sym s.in_second.len) s.in_first;
  }

  pub octets_lawful : IsLawful (octets low high)
  octets_lawful =
      lawful_of (octets low high)
      (restated (ShowsAfter (count low high).Shows ShowsFront) (ShowsOctets low high) (octets low high).read
      (followed (count low high).Shows (count low high).read (reader_of (count low high) (count_lawful low high))
      ShowsFront front_bytes front_reader)
      as_after as_octets)
      (λ xs h. record {
        word = (count low high).write (length xs);
        parts = refl;
        counted = (count_lawful low high).written (length xs) h;
      })

  pub octets_canonical : IsCanonical (octets low high)
  octets_canonical = record {
    fits = λ xs bytes h s. (count_canonical low high).fits (length xs) s.word
        (bytes_before s.word xs (subst AreBytes s.parts h)) s.counted;
    same = λ xs bytes h s.
        s.parts ∙ ap (λ (z : List ℕ). z ++ xs)
        ((count_canonical low high).same (length xs) s.word (bytes_before s.word xs (subst AreBytes s.parts h))
        s.counted);
  }

  pub text_lawful : IsLawful (text low high)
  text_lawful = tested_lawful is_utf8 (octets low high) octets_lawful

  pub text_canonical : IsCanonical (text low high)
  text_canonical = tested_canonical is_utf8 (octets low high) octets_canonical
