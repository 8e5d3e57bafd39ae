use Rattle.std.proofs.Common.{rules, ◌≡◌, ℕ, List, [], ◌∷◌, ◌++◌, length, sym, ap, subst, ◌∙◌, arith, length-append}
use Rattle.std.specs.List.{AllByRecursion}
use Rattle.vxcat_store.specs.IdFile.{id_text, HasLines, IsIdLine}
use Rattle.vxcat_store.proofs.IdLines.{first_line_is, last_line_is, refused, refused_last, ends_without, push_line, id_text_push}
use Rattle.vxcat_store.proofs.id_file.read_lines.Goals as goal

-- Where a line ends, the text is the lines so far, that line and the rest.
text_is : (text : List ℕ) (ids : List (List ℕ)) (rest line after : List ℕ) → text ≡ id_text ids ++ rest → rest ≡ line ++ 10 ∷ after → text ≡ id_text ids ++ (line ++ 10 ∷ after)
text_is text ids rest line after split is = split ∙ ap (λ (l : List ℕ). id_text ids ++ l) is

pub returns-in-Err-clause-bad : goal.returns-in-Err-clause-bad
returns-in-Err-clause-bad c = λ is all h few.
    let cut = c.in-Some.ensures.byte (omega arith) (λ w o f. f) in
    let first = first_line_is c.loop-line.rest.now cut.2 in
    let rest_is : c.loop-line.rest.now ≡ c.in-Some.line.now ++ 10 ∷ c.in-Some.after.now = rw (cut.0, cut.1) first.0 in
    refused c.args.text.now c.loop-line.ids c.in-Some.line.now c.in-Some.after.now all c.loop-line.invariant.lines (text_is _ _ _ _ _ c.loop-line.invariant.text rest_is) (c.in-Err.ensures.bad is) h few

pub loop-line-preserved : goal.loop-line-preserved
loop-line-preserved c =
    let cut = c.in-Some.ensures.byte (omega arith) (λ w o f. f) in
    let first = first_line_is c.loop-line.rest.now cut.2 in
    let rest_is : c.loop-line.rest.now ≡ c.in-Some.line.now ++ 10 ∷ c.in-Some.after.now = rw (cut.0, cut.1) first.0 in
    let line = c.in-Some.line.now in
    let ok = c.in_default-push_line.ensures in
    let one : IsIdLine line = (ok.fits.0, subst (λ (l : List ℕ). AllByRecursion (λ byte. byte ≡ 10 → ⊥) l) (sym cut.0) first.1) in
    record {
      lines = subst (λ (l : List (List ℕ)). AllByRecursion IsIdLine l) (sym ok.ok) (push_line c.loop-line.ids line c.loop-line.invariant.lines one);
      text = text_is _ _ _ _ _ c.loop-line.invariant.text rest_is ∙ sym (id_text_push c.loop-line.ids line c.in-Some.after.now) ∙ ap (λ (l : List (List ℕ)). id_text l ++ c.in-Some.after.now) (sym ok.ok);
      few = omega (arith, ap length ok.ok, length-append c.loop-line.ids (line ∷ []), ok.fits.1);
      utf8 = search rules;
    }

pub returns-in-Ok-clause-lines : goal.returns-in-Ok-clause-lines
returns-in-Ok-clause-lines c =
    let rest = c.loop-line.rest.now in
    let ok = c.in-Ok.ensures in
    let whole = c.in_default.ensures.byte (omega arith) (λ w o f. f) in
    subst (λ (l : List (List ℕ)). HasLines c.args.text.now l) (sym ok.ok) (ends_without c.args.text.now c.loop-line.ids rest c.loop-line.invariant.lines c.loop-line.invariant.text (ok.fits.0, last_line_is rest whole))

pub returns-in-Ok-clause-few : goal.returns-in-Ok-clause-few
returns-in-Ok-clause-few c =
    let rest = c.loop-line.rest.now in
    let ok = c.in-Ok.ensures in
    omega (arith, ap length ok.ok, length-append c.loop-line.ids (rest ∷ []), ok.fits.1)

pub returns-in-Err-push_line-clause-bad : goal.returns-in-Err-push_line-clause-bad
returns-in-Err-push_line-clause-bad c = λ is all h few.
    refused_last c.args.text.now c.loop-line.ids c.loop-line.rest.now all c.loop-line.invariant.lines c.loop-line.invariant.text (search rules) (c.in-Err-push_line.ensures.bad is) h few
