-- What is loaded of a file is what its bytes show.
use Rattle.std.proofs.Common.{ℕ, ◌≡◌, List, Option, Some, None, true, refl, sym, ap, ◌∙◌, subst}
use Rattle.std.specs.List.{list_all}
use Rattle.vx_forms.specs.Form.{read_all}
use Rattle.vx_forms.specs.Frame.{Framed, framed_at, framed_as, read_framed, cut_frame}
use Rattle.vx_forms.proofs.LawsOfFrames.{framed_back, framed_only}
use Rattle.vx_types.specs.Known.{ExtMeaning}
use Rattle.vx_file.specs.Causes.{HasBadType, HasNoForm}
use Rattle.vx_file.specs.Footer.{Footer, footer_form, file_word}
use Rattle.vx_file.specs.Loading.{IsFooterOf, HasNoTable, IsNoFooter}
use Rattle.vx_file.specs.Shows.{File, FileShows, IsColumnFile, footer_with}
use Rattle.vx_file.specs.Within.{lies_within}
use Rattle.vx_file.proofs.FooterForm.{footer_lawful}
use Rattle.vx_file.proofs.RangesWithin.{ranges_pass, ranges_hold}

module _ (bytes : List ℕ) where
  -- A footer that is read of the bytes that were cut, with its ranges within, is that of the file.
  form_of : (frame : Framed (List ℕ)) (footer : Footer) → cut_frame file_word bytes ≡ Some frame → read_all footer_form frame.value ≡ Some footer → list_all (lies_within frame.offset) footer.ranges ≡ true
      → IsColumnFile bytes footer frame.offset
  form_of frame footer cut is within =
      let read : read_framed file_word footer_form bytes ≡ Some (record { value = footer; offset = frame.offset })
      = ap (λ o. framed_as footer_form o) cut ∙ ap (λ o. framed_at frame.offset o) is in
      record {
        framed = framed_only file_word footer_form footer_lawful refl bytes (record { value = footer; offset = frame.offset }) read;
        within = ranges_hold frame.offset footer.ranges within;
      }

  pub parsed_shown : (frame : Framed (List ℕ)) (file : File) → cut_frame file_word bytes ≡ Some frame → IsFooterOf frame.value frame.offset file → FileShows bytes file
  parsed_shown frame file cut is = record {
    message = is.message;
    offset = frame.offset;
    form = form_of frame (footer_with file is.message) cut is.footer_is is.within;
    dtype = is.dtype;
  }

  pub parsed_no_table : (x : ExtMeaning) (frame : Framed (List ℕ)) → cut_frame file_word bytes ≡ Some frame → HasNoTable x frame.value frame.offset → HasBadType x bytes
  parsed_no_table x frame cut is = record { footer = is.footer; offset = frame.offset; form = form_of frame is.footer cut is.footer_is is.within; none = is.none }

  record Same (A : Type 0) (o : Option A) (offset : ℕ) (y : Framed A) : Type 0 where
    value : o ≡ Some y.value
    offset_is : offset ≡ y.offset

  same_in : {A : Type 0} (x y : Framed A) → ◌≡◌ {A = Option (Framed A)} (Some x) (Some y) → x ≡ y
  same_in x y e = cc

  same_frame : {A : Type 0} (offset : ℕ) (o : Option A) (y : Framed A) → framed_at offset o ≡ Some y → Same A o offset y
  same_frame offset None y e = absurd (cc)
  same_frame {A = A} offset (Some v) y e =
      let same = same_in (record { value = v; offset = offset }) y e in
      record { value = ap (λ (z : Framed A). Some z.value) same; offset_is = ap (λ (z : Framed A). z.offset) same }

  -- Where no footer is found in the bytes that were cut, or its ranges do not lie within, the bytes have no form of a file.
  pub parsed_none : (frame : Framed (List ℕ)) → cut_frame file_word bytes ≡ Some frame
      → IsNoFooter frame.value frame.offset → HasNoForm bytes
  parsed_none frame cut none = λ footer offset is.
      let read : framed_at frame.offset (read_all footer_form frame.value) ≡ Some (record { value = footer; offset = offset })
      = sym (ap (λ o. framed_as footer_form o) cut) ∙ framed_back file_word footer_form footer_lawful refl bytes footer offset is.framed in
      let same = same_frame frame.offset (read_all footer_form frame.value) (record { value = footer; offset = offset }) read in
      none footer same.value (subst (λ p. list_all (lies_within p) footer.ranges ≡ true) (sym same.offset_is) (ranges_pass offset footer.ranges is.within))

  pub cut_none : cut_frame file_word bytes ≡ None → HasNoForm bytes
  cut_none cut = λ footer offset is. never (read_framed file_word footer_form bytes) (record { value = footer; offset = offset })
      (ap (λ o. framed_as footer_form o) cut) (framed_back file_word footer_form footer_lawful refl bytes footer offset is.framed)
    where
      never : (o : Option (Framed Footer)) (y : Framed Footer) → o ≡ None → o ≡ Some y → ⊥
      never o y e f = cc
