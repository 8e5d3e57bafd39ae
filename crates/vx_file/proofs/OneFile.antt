-- Bytes show one column file at most.
use Rattle.std.proofs.Common.{ℕ, ◌≡◌, List, refl, sym, ap, ◌∙◌, subst}
use Rattle.vx_forms.proofs.LawsOfFrames.{one_framed}
use Rattle.vx_types.specs.Typ.{Typ}
use Rattle.vx_type_wire.specs.Shown.{ShowsType}
use Rattle.vx_type_wire.proofs.LawsTypes.{one_type_shown}
use Rattle.vx_file.specs.Footer.{Footer, footer_form, file_word}
use Rattle.vx_file.specs.Shows.{File, IsColumnFile, FileShows, footer_with}
use Rattle.vx_file.proofs.FooterForm.{footer_lawful}

-- Bytes have the form of a column file with one footer at most, at one offset.
pub one_form : (bytes : List ℕ) (x y : Footer) (p q : ℕ) → IsColumnFile bytes x p → IsColumnFile bytes y q → (x ≡ y) × (p ≡ q)
one_form bytes x y p q s t = one_framed file_word footer_form footer_lawful refl bytes x y p q s.framed t.framed

-- Bytes show one column file at most.
pub one_file : (bytes : List ℕ) (f g : File) → FileShows bytes f → FileShows bytes g → f ≡ g
one_file bytes f g s t =
    let same = (one_form bytes (footer_with f s.message) (footer_with g t.message) s.offset t.offset s.form t.form).0 in
    let P : List ℕ → Type 0 = λ m. ShowsType m g.dtype in
    let message : t.message ≡ s.message = ap (λ (z : Footer). z.type_message) (sym same) in
    let types : f.dtype ≡ g.dtype = one_type_shown s.message f.dtype g.dtype s.dtype (subst P message t.dtype) in
    let made : Footer → Typ → File = λ x d. record { rows = x.rows; ranges = x.ranges; ids = x.ids; dtype = d } in
    ap (λ x. made x f.dtype) same ∙ ap (λ d. made (footer_with g t.message) d) types
