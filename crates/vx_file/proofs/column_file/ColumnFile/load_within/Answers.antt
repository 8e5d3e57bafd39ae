-- By what is found of the file's footer.
use Rattle.std.proofs.Common.{ℕ, ◌≡◌, ◌+◌, ◌≤◌, List, Some, sym, ap, ◌∙◌, subst}
use Rattle.std.specs.Prelude.{option_map}
use Rattle.vx_forms.specs.Frame.{Framed, cut_frame}
use Rattle.vx_file.specs.Footer.{file_word}
use Rattle.vx_file.specs.Loading.{frame_of}
use Rattle.vx_file.specs.Ranges.{Tells}
use Rattle.vx_file.specs.Selecting.{part_of}
use Rattle.vx_file.proofs.LoadedFiles.{cut_none}
use Rattle.vx_file.proofs.LoadedResults.{result_shown, result_within, result_cause, result_complete}
use Rattle.vx_file.proofs.Taking.{if_some_at}
use Rattle.vx_file.proofs.column_file.ColumnFile.load_within.Goals as goal

pub returns-in_default-clause-cause : goal.returns-in_default-clause-cause
returns-in_default-clause-cause g c = λ bytes tells.
    cut_none (part_of bytes c.args.start c.args.len) (c.in_ok-frame.ensures.found bytes tells ∙ ap (λ o. option_map frame_of o) c.in_default.is)

pub returns-in_default-clause-complete : goal.returns-in_default-clause-complete
returns-in_default-clause-complete g c = λ bytes tells file shows known table.
    cut_none (part_of bytes c.args.start c.args.len) (c.in_ok-frame.ensures.found bytes tells ∙ ap (λ o. option_map frame_of o) c.in_default.is) _ shows.offset shows.form

pub returns-clause-shown : goal.returns-clause-shown
returns-clause-shown g c = λ bytes tells.
    let frame : Framed (List ℕ) = record { value = c.as_slice.result.now; offset = c.in-Some.frame.offset } in
    let cut : cut_frame file_word (part_of bytes c.args.start c.args.len) ≡ Some frame
    = c.in_ok-frame.ensures.found bytes tells ∙ (ap (λ o. option_map frame_of o) c.in-Some.is ∙ ap (λ z. Some (record { value = z; offset = c.in-Some.frame.offset })) (sym c.as_slice.ensures)) in
    result_shown c.parse_file.result (part_of bytes c.args.start c.args.len) frame cut c.parse_file.ensures.shown

pub returns-clause-within : goal.returns-clause-within
returns-clause-within g c =
    result_within c.parse_file.result c.as_slice.result.now c.in-Some.frame.offset c.args.len c.args.start _
    (if_some_at c.in_ok-frame.frame _ c.in-Some.frame c.in-Some.is c.in_ok-frame.ensures.offset)
    (subst (λ n. c.args.start + c.args.len ≤ n) (sym c.load_frame.ensures.same.size) c.requires) c.parse_file.ensures.shown

pub returns-clause-cause : goal.returns-clause-cause
returns-clause-cause g c =
    let frame : Framed (List ℕ) = record { value = c.as_slice.result.now; offset = c.in-Some.frame.offset } in
    let own : List ℕ → List ℕ = λ bytes. part_of bytes c.args.start c.args.len in
    let cut : (bytes : List ℕ) → Tells (g.R.Ranges.state c.args.ranges.now) bytes → cut_frame file_word (own bytes) ≡ Some frame
    = λ bytes tells. c.in_ok-frame.ensures.found bytes tells ∙ (ap (λ o. option_map frame_of o) c.in-Some.is ∙ ap (λ z. Some (record { value = z; offset = c.in-Some.frame.offset })) (sym c.as_slice.ensures)) in
    result_cause c.parse_file.result _ own (g.R.Ranges.state c.args.ranges.now) (g.R.Ranges.state c.load_frame.new.ranges) frame cut c.parse_file.ensures.cause

pub returns-clause-complete : goal.returns-clause-complete
returns-clause-complete g c = λ bytes tells file shows known table.
    let frame : Framed (List ℕ) = record { value = c.as_slice.result.now; offset = c.in-Some.frame.offset } in
    let own = part_of bytes c.args.start c.args.len in
    let cut : cut_frame file_word own ≡ Some frame
    = c.in_ok-frame.ensures.found bytes tells ∙ (ap (λ o. option_map frame_of o) c.in-Some.is ∙ ap (λ z. Some (record { value = z; offset = c.in-Some.frame.offset })) (sym c.as_slice.ensures)) in
    result_complete c.parse_file.result _ (g.R.Ranges.state c.args.ranges.now) _ own frame cut c.parse_file.ensures.shown c.parse_file.ensures.cause file shows known table
